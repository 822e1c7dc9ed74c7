-- A selected value by its flags.
-- Assumes nothing.
use mathlib.Core.Path.{◌≡◌}
use Prim.Native.Nat.{ℕ}
use native.Mathlib.Omega.{arith}
use Rattle.word.specs.Word.{◌+ₚ◌, ◌-ₚ◌, ◌*ₚ◌}
use Rattle.bus_tuples.specs.Selected.{selected_of}

pub looked_up : (operand value fp : ℕ) → value +ₚ 0 ≡ selected_of 0 0 operand value fp
unfolding ◌+ₚ◌ ◌-ₚ◌ ◌*ₚ◌
looked_up operand value fp = omega arith

pub immediate : (operand value fp : ℕ) → operand +ₚ 0 ≡ selected_of 1 0 operand value fp
unfolding ◌+ₚ◌ ◌-ₚ◌ ◌*ₚ◌
immediate operand value fp = omega arith

pub framed : (operand value fp : ℕ) → fp +ₚ operand ≡ selected_of 0 1 operand value fp
unfolding ◌+ₚ◌ ◌-ₚ◌ ◌*ₚ◌
framed operand value fp = omega arith
