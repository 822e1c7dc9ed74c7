-- Inner: kinds, operations and modes by numbers, and the modes that an operand of a kind may have. That these are those
-- of well-formed instructions is proved (proofs/Forms).
-- Declared in src/: Op, Mode, Kind (form); Span (here).
use Rattle.std.specs.Prelude.{ℕ, cond, eqb}
use Rattle.form.specs.declared.Op.{Op}
use Rattle.form.specs.declared.Op.TheVariants as op
use Rattle.form.specs.declared.Mode.{Mode}
use Rattle.form.specs.declared.Mode.TheVariants.{Immediate, Cell, Frame}
use Rattle.form.specs.declared.Kind.{Kind}
use Rattle.form.specs.declared.Kind.TheVariants.{Add, Mul, Deref, Jump, Extension}
use Rattle.listing_forms.specs.declared.Span.{Span}

abbrev pub kind_number : Kind → ℕ
kind_number Add = 0
kind_number Mul = 1
kind_number Deref = 2
kind_number Jump = 3
kind_number (Extension op be n) = 4

abbrev pub op_number : Op → ℕ
op_number op.Add = 0
op_number op.Mul = 1
op_number op.Peq = 2

abbrev pub op_of : ℕ → Op
op_of n = cond (eqb n 0) op.Add (cond (eqb n 1) op.Mul op.Peq)

abbrev pub mode_number : Mode → ℕ
mode_number Immediate = 0
mode_number Cell = 1
mode_number Frame = 2

abbrev pub mode_of : ℕ → Mode
mode_of n = cond (eqb n 0) Immediate (cond (eqb n 1) Cell Frame)

abbrev pub range : ℕ → ℕ → Span
range low high = record { low = low; high = high }

-- a: deref a cell, extension any, the others an immediate or a cell
abbrev pub a_range : ℕ → Span
a_range kind = cond (eqb kind 2) (range 1 1) (cond (eqb kind 4) (range 0 2) (range 0 1))

-- b: deref an immediate; fp-relative where a is, as in extension alone; else an immediate or a cell
abbrev pub b_range : ℕ → ℕ → Span
b_range kind a = cond (eqb kind 2) (range 0 0) (cond (eqb a 2) (range 2 2) (range 0 1))

-- c: of a jump no immediate
abbrev pub c_range : ℕ → Span
c_range kind = cond (eqb kind 3) (range 1 2) (range 0 2)
