-- A well-formed instruction's kind is in AUX alone, and so are the finder's tests by fewer words.
-- Assumes nothing.
use mathlib.Core.Path.{◌≡◌, ap}
use mathlib.Core.Bool.{Bool, true, ◌&&◌}
use Prim.Native.Nat.{ℕ}
use lib.Dec.{eqb}
use Rattle.form.specs.Form.{is_add, is_deref, well_formed}
use Rattle.form.specs.declared.Instruction.{Instruction}
use Rattle.form.specs.declared.Kind.{Kind}
use Rattle.form.specs.declared.Kind.TheVariants.{Add, Mul, Deref, Jump, Extension}
use Rattle.form.proofs.Forms.{Words, formed_of, well}
use Rattle.range_spec.specs.Finds.{derefs, adds}

module _ (i : Instruction) where
  kind_tests : (k : Kind) → Words i k → (is_deref i ≡ eqb i.aux 2) × (is_add i ≡ eqb i.aux 1)
  kind_tests Add (o, p) = (rw (o.mul_is, o.jump_is, o.aux_is), rw (o.mul_is, o.jump_is, o.aux_is, p.fpab_is, p.data_is))
  kind_tests Mul (o, p) = (rw (o.mul_is, o.aux_is), rw (o.mul_is, o.aux_is))
  kind_tests Deref (o, p, fa, fb) = (rw (o.mul_is, o.jump_is, o.aux_is, p.fpab_is, p.data_is, fa, fb), rw (o.mul_is, o.jump_is, o.aux_is))
  kind_tests Jump (o, p, fc) = (rw (o.mul_is, o.jump_is, o.aux_is), rw (o.mul_is, o.jump_is, o.aux_is))
  kind_tests (Extension op be n) (o, e) = (rw (o.mul_is, o.jump_is, o.aux_is), rw (o.mul_is, o.jump_is, o.aux_is))

  by_aux : well_formed i ≡ true → (is_deref i ≡ eqb i.aux 2) × (is_add i ≡ eqb i.aux 1)
  by_aux w = let (f, e) = well i w in kind_tests f.kind (formed_of i f e).words

  pub derefs_by_aux : (x : ℕ) → well_formed i ≡ true → derefs x i ≡ eqb i.aux 2 && eqb i.a x && eqb i.b 0
  derefs_by_aux x w = ap (λ (b : Bool). b && eqb i.a x && eqb i.b 0) (by_aux w).0

  pub adds_by_aux : well_formed i ≡ true → adds i ≡ eqb i.aux 1 && eqb i.fa 0 && eqb i.fb 1 && eqb i.fc 0 && eqb i.fpc 0
  adds_by_aux w = ap (λ (b : Bool). b && eqb i.fa 0 && eqb i.fb 1 && eqb i.fc 0 && eqb i.fpc 0) (by_aux w).1
