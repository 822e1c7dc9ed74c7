-- The counter of a well-formed instruction by its words alone.
-- Assumes nothing.
use mathlib.Core.Path.{◌≡◌, ap, ◌∙◌}
use mathlib.Core.Bool.{true}
use Prim.Native.Nat.{ℕ, ◌+◌, ◌-◌, ◌*◌, ◌≤◌}
use native.Mathlib.Omega.{arith}
use lib.Dec.{eqb}
use borrow.Author.Tests.{eqb-true, eqb-false}
use Rattle.word.proofs.Tests.{by_test}
use Rattle.form.specs.Form.{decode_of, well_formed, operand_of}
use Rattle.form.specs.declared.Instruction.{Instruction}
use Rattle.form.specs.declared.Kind.{Kind}
use Rattle.form.specs.declared.Kind.TheVariants.{Add, Mul, Deref, Jump, Extension}
use Rattle.form.specs.declared.Mode.{Mode}
use Rattle.form.proofs.Forms.{Flags, Words as KindWords, formed_of, well}
use Rattle.grid_spec.specs.Forms.{kind_number, mode_number, counter_of}

-- what the opcode words take from the kinds' highest number
abbrev pub below : Instruction → ℕ
below i = 3 * i.mul + i.jump + i.aux * (7 - 3 * i.aux)

pub record ByWords (i : Instruction) : Type 0 where
  pub few : (i.aux ≤ 2) × (below i ≤ 4)
  pub flags : Flags i
  pub is : counter_of (decode_of i) ≡ 27 * (4 - below i) + 9 * (1 + i.fpab - i.fa) + 3 * (1 + i.fpab - i.fb) + (1 + i.fpc - i.fc)

mode_by : (flag fp word : ℕ) → flag + fp ≤ 1 → mode_number (operand_of flag fp word).mode ≡ 1 + fp - flag
mode_by flag fp word h =
    by_test (λ (m : Mode). mode_number m ≡ 1 + fp - flag) (eqb flag 1)
    (λ t. omega (arith, eqb-true flag 1 t))
    (λ f.
    let zero : flag ≡ 0 = let not = eqb-false flag 1 f in omega arith in
    by_test (λ (m : Mode). mode_number m ≡ 1 + fp - flag) (eqb fp 1)
    (λ t. omega (arith, eqb-true fp 1 t))
    (λ g. let not = eqb-false fp 1 g in omega arith))

module _ (i : Instruction) where
  kind_by_lem : (k : Kind) → KindWords i k → (i.aux ≤ 2) × (below i ≤ 4) × (kind_number k ≡ 4 - below i)
  kind_by_lem Add (o, p) = rw (o.mul_is, o.jump_is, o.aux_is) (omega arith)
  kind_by_lem Mul (o, p) = rw (o.mul_is, o.jump_is, o.aux_is) (omega arith)
  kind_by_lem Deref (o, p, fa, fb) = rw (o.mul_is, o.jump_is, o.aux_is) (omega arith)
  kind_by_lem Jump (o, p, fc) = rw (o.mul_is, o.jump_is, o.aux_is) (omega arith)
  kind_by_lem (Extension op be n) (o, e) = rw (o.mul_is, o.jump_is, o.aux_is) (omega arith)

  pub by_words : well_formed i ≡ true → ByWords i
  by_words fits =
      let (f, e) = well i fits in
      let formed = formed_of i f e in
      let (few, least, kind) = kind_by_lem f.kind formed.words in
      let a = mode_by i.fa i.fpab i.a formed.flags.a in
      let b = mode_by i.fb i.fpab i.b formed.flags.b in
      let c = mode_by i.fc i.fpc i.c formed.flags.c in
      record {
        few = (few, least);
        flags = formed.flags;
        is = ap counter_of e ∙ rw (formed.a_is, formed.b_is, formed.c_is, kind, a, b, c);
      }
