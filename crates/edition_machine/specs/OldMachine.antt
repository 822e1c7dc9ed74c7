-- Draft 0.5.0, 2.2 to 2.4: a program and a read-only memory, and how what an instruction names is read.
use Rattle.std.specs.Prelude.{ℕ, Bool, true, ltb}
use Rattle.word.specs.Word.{◌+ₚ◌}
use Rattle.outcome.specs.Outcome.{State}
use Rattle.edition_machine.specs.Isa.{Source, constant, stored, pointer, Isa}

-- a program, by its instructions, and a memory of M cells
pub record OldMachine : Type 0 where
  pub count : ℕ
  pub instruction : ℕ → Isa
  pub size : ℕ
  pub cell : ℕ → ℕ

module _ (m : OldMachine) (s : State) where
  -- α, the cell at fp + α, or fp
  abbrev pub old_value : Source → ℕ
  old_value (constant x) = x
  old_value (stored x) = m.cell (s.fp +ₚ x)
  old_value pointer = s.fp

  -- any out-of-bound memory access (i ≥ M) is invalid
  abbrev pub old_legal : Source → Bool
  old_legal (constant x) = true
  old_legal (stored x) = ltb (s.fp +ₚ x) m.size
  old_legal pointer = true
