-- AUX 0 and 1 are computed here; else each step is the definition's.
use mathlib.Core.Path.{refl}
use Rattle.word.specs.Word.{◌-ₚ◌, ◌*ₚ◌}
use Rattle.judge_exec.proofs.execution.add_flag.Goals as goal

pub returns-in-0 : goal.returns-in-0
unfolding ◌-ₚ◌ ◌*ₚ◌
returns-in-0 c = rw c.in-0.is refl

pub returns-in-1 : goal.returns-in-1
unfolding ◌-ₚ◌ ◌*ₚ◌
returns-in-1 c = rw c.in-1.is refl

pub returns-in_default : goal.returns-in_default
returns-in_default c = rw (c.mul.ensures, c.sub.ensures)
