-- The opcode words and DATA alone give a well-formed instruction its form.
-- Assumes nothing.
use mathlib.Core.Path.{◌≡◌, refl, sym, ap, ◌∙◌}
use mathlib.Core.Bool.{Bool, true, false}
use Prim.Native.Nat.{ℕ, ◌/◌, ◌%◌}
use lib.Dec.{eqb}
use Rattle.form.proofs.DataLaws.{reads, parts}
use Rattle.form.proofs.Forms.{Words, formed_of, well}
use Rattle.form.specs.Data.{data_word}
use Rattle.form.specs.Form.{well_formed, form_of, decode_of}
use Rattle.form.specs.Opcodes.{op_by, extension_by, kind_by}
use Rattle.form.specs.declared.Instruction.{Instruction}
use Rattle.form.specs.declared.Op.{Op}
use Rattle.form.specs.declared.Op.TheVariants as op
use Rattle.form.specs.declared.Kind.{Kind}
use Rattle.form.specs.declared.Kind.TheVariants.{Add, Mul, Deref, Jump, Extension}
use Rattle.std.specs.Prelude.{Some}

extended : (op : Op) (be : Bool) (n : ℕ) → extension_by (data_word op be n) ≡ Extension op be n
extended o be n = rw ((parts o be n).0, (parts o be n).1) (own o be)
  where
    own : (o : Op) (be : Bool) → Extension (op_by (data_word o be 0)) (eqb (data_word o be 0 / 2 % 2) 1) n ≡ Extension o be n
    own op.Add false = refl
    own op.Add true = refl
    own op.Mul false = refl
    own op.Mul true = refl
    own op.Peq false = refl
    own op.Peq true = refl

of_words : (i : Instruction) (k : Kind) → Words i k → kind_by i ≡ k
of_words i Add (o, p) = rw o.aux_is
of_words i Mul (o, p) = rw (o.mul_is, o.aux_is)
of_words i Deref (o, p, fa, fb) = rw o.aux_is
of_words i Jump (o, p, fc) = rw (o.mul_is, o.jump_is, o.aux_is)
of_words i (Extension op be n) (o, e) = rw (o.mul_is, o.jump_is, o.aux_is, ← (reads _ op be n e).word) (extended op be n)

pub known : (i : Instruction) → well_formed i ≡ true → decode_of i ≡ form_of i (kind_by i)
known i fits =
    let (f, e) = well i fits in
    let formed = formed_of i f e in
    (e ∙ λ j. Some (record { kind = f.kind; a = formed.a_is j; b = formed.b_is j; c = formed.c_is j })) ∙ sym (ap (form_of i) (of_words i f.kind formed.words))
