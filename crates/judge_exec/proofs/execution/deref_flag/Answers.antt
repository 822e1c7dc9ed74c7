-- AUX 0, 1 and 2 are computed here; else each step is the definition's.
use mathlib.Core.Path.{refl}
use Rattle.word.specs.Word.{◌-ₚ◌, ◌*ₚ◌}
use Rattle.judge_exec.proofs.execution.deref_flag.Goals as goal

pub returns-in-0 : goal.returns-in-0
unfolding ◌-ₚ◌ ◌*ₚ◌
returns-in-0 c = rw c.in-0.is refl

pub returns-in-1 : goal.returns-in-1
unfolding ◌-ₚ◌ ◌*ₚ◌
returns-in-1 c = rw c.in-1.is refl

pub returns-in-2 : goal.returns-in-2
unfolding ◌-ₚ◌ ◌*ₚ◌
returns-in-2 c = rw c.in-2.is refl

pub returns-in_default : goal.returns-in_default
returns-in_default c = rw (c.mul-in_default.ensures, c.mul.ensures, c.sub.ensures)
