-- Three well-formed instructions pass the finder's tests exactly where they are those of a range check.
-- Assumes nothing.
use mathlib.Core.Path.{◌≡◌, sym, ap, ◌∙◌}
use mathlib.Core.Bool.{true, ◌&&◌, ◌||◌}
use mathlib.Core.List.{[], ◌∷◌}
use Prim.Native.Nat.{ℕ, ◌+◌, ◌-◌, ◌≤◌}
use native.Mathlib.Omega.{arith}
use lib.Dec.{eqb}
use borrow.Author.Tests.{eqb-true, eqb-false, eq-eqb}
use Rattle.word.proofs.Tests.{each, by_test}
use Rattle.form.specs.Form.{flags_fit, opcode, plain, is_add, is_mul, is_deref, is_jump, operand_of, decode_of, well_formed}
use Rattle.form.specs.Data.{read_data}
use Rattle.form.specs.Opcodes.{is_call}
use Rattle.form.specs.declared.Instruction.{Instruction}
use Rattle.form.specs.declared.Mode.{Mode}
use Rattle.form.specs.declared.Mode.TheVariants.{Immediate, Cell}
use Rattle.form.specs.declared.Operand.{Operand}
use Rattle.form.specs.declared.Kind.TheVariants.{Add, Deref}
use Rattle.std.specs.Prelude.{Some}
use Rattle.form.proofs.Forms.{opcode_of, plain_of, formed_of, decodes, form_tests}
use Rattle.range_spec.specs.RangeCheck.{deref_of, add_of}
use Rattle.range_spec.specs.Finds.{derefs, adds}

-- the flags of an operand, by its mode
module _ (flag fp word : ℕ) where
  is_immediate_lem : (operand_of flag fp word).mode ≡ Immediate → flag ≡ 1
  is_immediate_lem =
      by_test (λ (m : Mode). m ≡ Immediate → flag ≡ 1) (eqb flag 1) (λ t _. eqb-true flag 1 t)
      (λ _.
      by_test (λ (m : Mode). m ≡ Immediate → flag ≡ 1) (eqb fp 1) (λ _ e. absurd (let z : ◌≡◌ {A = ℕ} 0 1 = cc in omega arith))
      (λ _ e. absurd (let z : ◌≡◌ {A = ℕ} 0 1 = cc in omega arith)))

  is_cell_lem : flag + fp ≤ 1 → (operand_of flag fp word).mode ≡ Cell → (flag ≡ 0) × (fp ≡ 0)
  is_cell_lem few =
      by_test (λ (m : Mode). m ≡ Cell → (flag ≡ 0) × (fp ≡ 0)) (eqb flag 1) (λ _ e. absurd (let z : ◌≡◌ {A = ℕ} 0 1 = cc in omega arith))
      (λ f.
      by_test (λ (m : Mode). m ≡ Cell → (flag ≡ 0) × (fp ≡ 0)) (eqb fp 1) (λ _ e. absurd (let z : ◌≡◌ {A = ℕ} 0 1 = cc in omega arith))
      (λ g _. let no_flag = eqb-false flag 1 f in let no-fp = eqb-false fp 1 g in (omega arith, omega arith)))

module _ (i : Instruction) where
  fits : well_formed i ≡ true → flags_fit i ≡ true
  fits w =
      (each (flags_fit i) ((is_add i || is_mul i || is_deref i || is_jump i || (opcode i 0 0 0 && is_call (read_data i.«data»))) ∷ []) (form_tests i ∙ w)).0

  -- a DEREF of cell x with β 0
  pub derefs_form : (x : ℕ) → well_formed i ≡ true → derefs x i ≡ true → (c : Operand) × (decode_of i ≡ Some (deref_of x c))
  derefs_form x w t =
      let (o, (p, (fa, (fb, (a, b))))) =
      each (opcode i 0 0 2) (plain i ∷ eqb i.fa 0 ∷ eqb i.fb 1 ∷ eqb i.a x ∷ eqb i.b 0 ∷ []) t in
      let plain-words = plain_of i p in
      let a-flag = eqb-true i.fa 0 fa in
      let b-flag = eqb-true i.fb 1 fb in (
        operand_of i.fc i.fpc i.c,
        decodes i Deref (fits w) (opcode_of i 0 0 2 o, plain-words, a-flag, b-flag)
            ∙ rw (a-flag, b-flag, plain-words.fpab_is, eqb-true i.a x a, eqb-true i.b 0 b),
      )

  pub form_derefs : (x : ℕ) (c : Operand) → decode_of i ≡ Some (deref_of x c) → derefs x i ≡ true
  form_derefs x c e =
      let formed = formed_of i (deref_of x c) e in
      let (o, p, fa, fb) = formed.words in
      let a : x ≡ i.a = ap (λ (o : Operand). o.word) formed.a_is in
      let b : 0 ≡ i.b = ap (λ (o : Operand). o.word) formed.b_is in
      rw (o.mul_is, o.jump_is, o.aux_is, p.fpab_is, p.data_is, fa, fb, eq-eqb i.a x (sym a), ← b)

  -- an ADD of two cells to an immediate
  pub adds_form : well_formed i ≡ true → adds i ≡ true → decode_of i ≡ Some (add_of i.a i.c i.b)
  adds_form w t =
      let (o, (p, (fa, (fb, (fc, fpc))))) =
      each (opcode i 0 0 1) (plain i ∷ eqb i.fa 0 ∷ eqb i.fb 1 ∷ eqb i.fc 0 ∷ eqb i.fpc 0 ∷ []) t in
      let plain-words = plain_of i p in
      decodes i Add (fits w) (opcode_of i 0 0 1 o, plain-words)
      ∙ rw (eqb-true i.fa 0 fa, eqb-true i.fb 1 fb, eqb-true i.fc 0 fc, eqb-true i.fpc 0 fpc, plain-words.fpab_is)

  pub form_adds : (x j sum : ℕ) → decode_of i ≡ Some (add_of x j sum) → (adds i ≡ true) × (i.a ≡ x) × (i.c ≡ j) × (i.b ≡ sum)
  form_adds x j sum e =
      let formed = formed_of i (add_of x j sum) e in
      let (o, p) = formed.words in
      let a = is_cell_lem i.fa i.fpab i.a formed.flags.a (ap (λ (o : Operand). o.mode) (sym formed.a_is)) in
      let b = is_immediate_lem i.fb i.fpab i.b (ap (λ (o : Operand). o.mode) (sym formed.b_is)) in
      let c = is_cell_lem i.fc i.fpc i.c formed.flags.c (ap (λ (o : Operand). o.mode) (sym formed.c_is)) in (
        rw (o.mul_is, o.jump_is, o.aux_is, p.fpab_is, p.data_is, a.0, b, c.0, c.1),
        ap (λ (o : Operand). o.word) (sym formed.a_is),
        ap (λ (o : Operand). o.word) (sym formed.c_is),
        ap (λ (o : Operand). o.word) (sym formed.b_is),
      )
