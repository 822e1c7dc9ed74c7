-- be 0 and 1 are computed here; else each step is the definition's.
use mathlib.Core.Path.{refl}
use Rattle.word.specs.Word.{◌+ₚ◌, ◌-ₚ◌, ◌*ₚ◌}
use Rattle.judge_ext.proofs.ext_quick.stride.Goals as goal

pub returns-then-be-eq0 : goal.returns-then-be-eq0
unfolding ◌+ₚ◌ ◌-ₚ◌ ◌*ₚ◌
returns-then-be-eq0 c = rw c.if-be-eq0.true refl

pub returns-then-be-eq1 : goal.returns-then-be-eq1
unfolding ◌+ₚ◌ ◌-ₚ◌ ◌*ₚ◌
returns-then-be-eq1 c = rw c.if-be-eq1.true refl

pub returns : goal.returns
returns c = rw (c.add.ensures, c.mul.ensures, c.sub.ensures)
