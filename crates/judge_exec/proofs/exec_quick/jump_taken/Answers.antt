-- JUMP 0 leaves 0.
use Rattle.judge_lookups.proofs.Quick.{shut}
use Rattle.judge_exec.proofs.exec_quick.jump_taken.Goals as goal

pub returns-then-jump-eq0 : goal.returns-then-jump-eq0
returns-then-jump-eq0 c = rw (c.if-jump-eq0.true, shut)
