-- Document 01, "The machine, without flags"; draft 0.6.0, 2.2 to 2.5: what a machine and its state are, and how an
-- operand is read. No flag and no polynomial.
-- Declared in src/: Form, Operand, Mode (form).
use Rattle.std.specs.Prelude.{ℕ, Bool, true, ltb}
use Rattle.word.specs.Word.{◌+ₚ◌}
pub use Rattle.outcome.specs.Outcome.{State}
use Rattle.form.specs.declared.Form.{Form}
use Rattle.form.specs.declared.Operand.{Operand}
use Rattle.form.specs.declared.Mode.{Mode}
use Rattle.form.specs.declared.Mode.TheVariants.{Immediate, Cell, Frame}

-- a program, by the forms of its instructions, and a read-only memory of M cells
pub record Machine : Type 0 where
  pub count : ℕ
  pub form : ℕ → Form
  pub size : ℕ
  pub cell : ℕ → ℕ

-- where an operand's cell lies, or would lie
abbrev pub address : State → Operand → ℕ
address s o = s.fp +ₚ o.word

-- an operand is an immediate, a cell at fp + offset, or fp + offset itself
abbrev pub value_by : Machine → State → Operand → Mode → ℕ
value_by m s o Immediate = o.word
value_by m s o Cell = m.cell (address s o)
value_by m s o Frame = address s o

abbrev pub value : Machine → State → Operand → ℕ
value m s o = value_by m s o o.mode

-- a cell index at or above M is illegal
abbrev pub legal_by : Machine → State → Operand → Mode → Bool
legal_by m s o Immediate = true
legal_by m s o Cell = ltb (address s o) m.size
legal_by m s o Frame = true

abbrev pub legal : Machine → State → Operand → Bool
legal m s o = legal_by m s o o.mode
