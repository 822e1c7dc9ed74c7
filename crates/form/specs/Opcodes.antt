-- Inner: the kind of an instruction that is known to be well-formed, by its opcode words and DATA alone.
-- Declared in src/: Instruction, Op, Kind (here).
use Rattle.std.specs.Prelude.{ℕ, ◌/◌, ◌%◌, Bool, true, false, cond, ltb, eqb}
use Rattle.form.specs.Data.{Call, None, Of}
use Rattle.form.specs.declared.Instruction.{Instruction}
use Rattle.form.specs.declared.Op.{Op}
use Rattle.form.specs.declared.Op.TheVariants as op
use Rattle.form.specs.declared.Kind.{Kind}
use Rattle.form.specs.declared.Kind.TheVariants.{Add, Mul, Deref, Jump, Extension}

-- whether a word names a call
abbrev pub is_call : Call → Bool
is_call None = false
is_call (Of op be n) = true

-- 4 or 6 is an addition, 8 or 10 a multiplication, 16 or 18 a peq
abbrev pub op_by : ℕ → Op
op_by rest = cond (ltb rest 8) op.Add (cond (ltb rest 16) op.Mul op.Peq)

abbrev pub extension_by : ℕ → Kind
extension_by d = Extension (op_by (d % 32)) (eqb (d % 32 / 2 % 2) 1) (d / 32)

abbrev pub kind_by : Instruction → Kind
kind_by i =
    cond (eqb i.aux 1) Add
    (cond (eqb i.aux 2) Deref
    (cond (eqb i.mul 1) Mul
    (cond (eqb i.jump 1) Jump
    (extension_by i.«data»))))
