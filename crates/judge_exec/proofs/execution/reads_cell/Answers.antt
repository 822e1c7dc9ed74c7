-- With both flags 0 the difference is 1; else each step is the definition's.
use Rattle.word.specs.Word.{◌-ₚ◌}
use Rattle.judge_exec.proofs.execution.reads_cell.Goals as goal

pub returns-then-fp_flag-eq0 : goal.returns-then-fp_flag-eq0
unfolding ◌-ₚ◌
returns-then-fp_flag-eq0 c = rw (c.if-flag-eq0.true, c.if-fp_flag-eq0.true)

pub returns : goal.returns
returns c = rw (c.sub-2.ensures, c.sub.ensures)
