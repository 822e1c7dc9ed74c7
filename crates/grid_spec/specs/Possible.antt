-- Document 01, "Well-formed instructions", read for M-100: the forms that there are, 50 of 135.
-- Declared in src/: Kind, Op, Mode (form).
use Rattle.std.specs.Prelude.{ℕ, zero, suc, ◌/◌, ◌%◌, Bool, true, false, cond, ◌&&◌, ◌||◌}
use Rattle.form.specs.declared.Kind.{Kind}
use Rattle.form.specs.declared.Kind.TheVariants.{Add, Mul, Deref, Jump, Extension}
use Rattle.form.specs.declared.Op.TheVariants as op
use Rattle.form.specs.declared.Mode.{Mode}
use Rattle.form.specs.declared.Mode.TheVariants.{Immediate, Cell, Frame}
use Rattle.rules.specs.Bus.{total}

abbrev pub is_immediate : Mode → Bool
is_immediate Immediate = true
is_immediate Cell = false
is_immediate Frame = false

abbrev pub is_cell : Mode → Bool
is_cell Immediate = false
is_cell Cell = true
is_cell Frame = false

abbrev pub is_frame : Mode → Bool
is_frame Immediate = false
is_frame Cell = false
is_frame Frame = true

-- an immediate or a cell
abbrev pub plain : Mode → Bool
plain m = is_immediate m || is_cell m

-- ADD and MUL take immediates and cells as A and B; DEREF a cell and an immediate; JUMP as ADD, and no immediate as C;
-- extension as ADD, or fp-relative A and B. Where no more is said C is any
abbrev pub possible : Kind → Mode → Mode → Mode → Bool
possible Add a b c = plain a && plain b
possible Mul a b c = plain a && plain b
possible Deref a b c = is_cell a && is_immediate b
possible Jump a b c = plain a && plain b && (is_cell c || is_frame c)
possible (Extension op be n) a b c = (plain a && plain b) || (is_frame a && is_frame b)

-- the kind and the modes of a counter; what an extension does and on how many elements is not counted
abbrev pub kind_at : ℕ → Kind
kind_at zero = Add
kind_at (suc zero) = Mul
kind_at (suc (suc zero)) = Deref
kind_at (suc (suc (suc zero))) = Jump
kind_at (suc (suc (suc (suc n)))) = Extension op.Add false 1

abbrev pub mode_at : ℕ → Mode
mode_at zero = Immediate
mode_at (suc zero) = Cell
mode_at (suc (suc n)) = Frame

abbrev pub possible_at : ℕ → Bool
possible_at k = possible (kind_at (k / 27)) (mode_at (k / 9 % 3)) (mode_at (k / 3 % 3)) (mode_at (k % 3))

-- how many of the 135 counters are
abbrev pub possible_forms : ℕ
possible_forms = total (λ k. cond (possible_at k) 1 0) 135
