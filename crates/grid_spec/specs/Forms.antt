-- Document 02, M-100: a grid of kind by mode of A, B and C, kind slowest and C fastest, modes in the order immediate,
-- cell, fp-relative; and how many rows of an execution table are of a form.
-- Declared in src/: Kind, Mode, Form (form).
use Rattle.std.specs.Prelude.{ℕ, ◌+◌, ◌*◌, cond, eqb, Option, Some, None}
use Rattle.form.specs.Form.{decode_of}
use Rattle.form.specs.declared.Kind.{Kind}
use Rattle.form.specs.declared.Kind.TheVariants.{Add, Mul, Deref, Jump, Extension}
use Rattle.form.specs.declared.Mode.{Mode}
use Rattle.form.specs.declared.Mode.TheVariants.{Immediate, Cell, Frame}
use Rattle.form.specs.declared.Form.{Form}
use Rattle.rules.specs.Given.{Given, Tables}
use Rattle.rules.specs.Bus.{total, instruction_of}

abbrev pub kind_number : Kind → ℕ
kind_number Add = 0
kind_number Mul = 1
kind_number Deref = 2
kind_number Jump = 3
kind_number (Extension op be n) = 4

abbrev pub mode_number : Mode → ℕ
mode_number Immediate = 0
mode_number Cell = 1
mode_number Frame = 2

-- the counter of a form, 0 to 134
abbrev pub counter : Kind → Mode → Mode → Mode → ℕ
counter kind a b c = 27 * kind_number kind + 9 * mode_number a + 3 * mode_number b + mode_number c

-- the counter of an instruction; a malformed one has no form and no counter, and no row of an accepted table has one
abbrev pub counter_of : Option Form → ℕ
counter_of None = 135
counter_of (Some f) = counter f.kind f.a.mode f.b.mode f.c.mode

-- an execution row's form is that of the instruction at its pc
unfoldable pub counter_at : Given → Tables → ℕ → ℕ
counter_at g t r = counter_of (decode_of (instruction_of g t r))

-- how many of the rows below n are of counter k's form
abbrev pub rows_of : Given → Tables → ℕ → ℕ → ℕ
rows_of g t k n = total (λ r. cond (eqb (counter_at g t r) k) 1 0) n
