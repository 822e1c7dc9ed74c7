-- Draft 0.6.0, 2.6.3, and document 02, M-108: a check in three cycles that the cell at fp + x is below t. A DEREF of
-- cell x with β 0, an ADD of cell x (as A) and cell j (as C) to immediate t - 1, and a DEREF of cell j with β 0.
-- Declared in src/: Mode, Operand, Kind, Form (form).
use Rattle.std.specs.Prelude.{ℕ, ◌+◌, ◌-◌, ◌≤◌, ◌<◌, ◌≡◌}
use Rattle.form.specs.Form.{decode_of}
use Rattle.form.specs.declared.Mode.{Mode}
use Rattle.form.specs.declared.Mode.TheVariants.{Immediate, Cell}
use Rattle.form.specs.declared.Operand.{Operand}
use Rattle.form.specs.declared.Kind.TheVariants.{Add, Deref}
use Rattle.form.specs.declared.Form.{Form}
use Rattle.std.specs.Prelude.{Some}
use Rattle.rules.specs.Given.{Given, Tables}
use Rattle.rules.specs.Bus.{instruction_of}

abbrev pub operand : Mode → ℕ → Operand
operand mode word = record { mode = mode; word = word }

-- a DEREF of cell x with β 0, whatever C is
abbrev pub deref_of : ℕ → Operand → Form
deref_of x c = record { kind = Deref; a = operand Cell x; b = operand Immediate 0; c = c }

-- an ADD of cell x, as A, and cell j, as C, to an immediate
abbrev pub add_of : ℕ → ℕ → ℕ → Form
add_of x j sum = record { kind = Add; a = operand Cell x; b = operand Immediate sum; c = operand Cell j }

-- three consecutive rows, of which r is the first, have these instructions; the paper's t is the bound
pub record RangeCheck (g : Given) (t : Tables) (r x j bound : ℕ) : Type 0 where
  pub inside : r + 2 < t.height
  pub first_c : Operand
  pub first : decode_of (instruction_of g t r) ≡ Some (deref_of x first_c)
  pub second : decode_of (instruction_of g t (r + 1)) ≡ Some (add_of x j (bound - 1))
  pub last_c : Operand
  pub last : decode_of (instruction_of g t (r + 2)) ≡ Some (deref_of j last_c)
  pub some : 1 ≤ bound
