-- A translated instruction is well-formed, and does what the old one did: the same step, or stuck by the same rule.
-- Assumes nothing.
use mathlib.Core.Path.{◌≡◌, refl, sym, ap, ◌∙◌}
use mathlib.Core.Bool.{true, and-true, or-true}
use Prim.Native.Nat.{ℕ, ◌<◌}
use native.Mathlib.Omega.{arith}
use lib.Dec.{eqb, lit<}
use Rattle.word.specs.Word.{IsWord, ◌+ₚ◌, ◌*ₚ◌}
use Rattle.word.proofs.WordLaws.{sum_zero}
use Rattle.word.proofs.Tests.{cases, by_equal}
use Rattle.form.specs.Form.{flags_fit, operand_of, form_of, decode_of, well_formed}
use Rattle.form.specs.declared.Instruction.{Instruction}
use Rattle.form.specs.declared.Form.{Form}
use Rattle.form.specs.declared.Kind.{Kind}
use Rattle.form.specs.declared.Kind.TheVariants.{Add, Mul, Deref, Jump}
use Rattle.form.proofs.Forms.{Words, decodes}
use Rattle.outcome.specs.Outcome.{State, Outcome, asked}
use Rattle.machine.specs.Machine.{Machine, value, legal}
use Rattle.machine.specs.Step.{forward, target_legal, jumps, performed, performs}
use Rattle.tables.specs.Machine.{form_in}
use Rattle.edition_machine.specs.Isa.{Source, Isa, add, mul, deref, jump}
use Rattle.edition_machine.specs.OldMachine.{OldMachine, old_value, old_legal}
use Rattle.edition_machine.specs.OldStep.{three_read, old_performs}
use Rattle.edition_machine.specs.Encoding.{constant_or_stored, pointer_or_stored, right_of, with_three, meant}
use Rattle.edition_machine.specs.declared.Encoded.{Encoded}
use Rattle.edition_spec.specs.Translation.{three_form, carried, deref_form, exchanged, translated}
use Rattle.edition_spec.proofs.Known.{Known, passes}

by_bit : {P : Type 0} (x : ℕ) → x < 2 → (x ≡ 0 → P) → (x ≡ 1 → P) → P
by_bit x low f g = by_equal x 0 f (λ not. g (omega (arith, low, not)))

-- the machine of the same size and cells
abbrev pub old_over : Machine → ℕ → (ℕ → Isa) → OldMachine
old_over m count instruction = record { count = count; instruction = instruction; size = m.size; cell = m.cell }

module _ (m : Machine) (count : ℕ) (instruction : ℕ → Isa) (s : State) (word : IsWord s.fp) where
  abbrev before : OldMachine
  before = old_over m count instruction

  -- an old instruction and a new one do the same, and the new one is well-formed
  pub record Alike (was : Isa) (is : Instruction) : Type 0 where
    pub acts : old_performs before s was ≡ performs m s (form_in (decode_of is))
    pub well : well_formed is ≡ true

  turned : {was : Isa} {is other : Instruction} → is ≡ other → Alike was other → Alike was is
  turned e a = rw e a

  meant_as : {was other : Isa} {is : Instruction} → was ≡ other → Alike other is → Alike was is
  meant_as e a = record { acts = ap (old_performs before s) e ∙ a.acts; well = a.well }

  -- what is read, and whether it may be: A, B, and DEREF's C where AUX_1 is 1
  a_value : (flag x : ℕ) → old_value before s (constant_or_stored flag x) ≡ value m s (operand_of flag 0 x)
  a_value flag x = cases (eqb flag 1) (λ t. rw t) (λ t. rw t)

  a_legal : (flag x : ℕ) → old_legal before s (constant_or_stored flag x) ≡ legal m s (operand_of flag 0 x)
  a_legal flag x = cases (eqb flag 1) (λ t. rw t) (λ t. rw t)

  fp_value : s.fp ≡ value m s (operand_of 0 1 0)
  fp_value = sym (sum_zero s.fp word)

  -- both machines jump alike
  lands : (x y z : Source)
      → old_performs before s (jump x y z) ≡ three_read before s x y z (jumps (old_value before s x) (old_value before s y) (old_value before s z) s)
  lands x y z = cases (eqb (old_value before s x) 1) (λ t. rw t) (λ t. rw t)

  module _ (e : Encoded) where
    -- an ADD, MUL or JUMP whose C is read alike: `then` is what both ask of the three values
    module _ (c fpc : ℕ)
        (c-value : old_value before s (pointer_or_stored e.fc e.c) ≡ value m s (operand_of 0 fpc c))
        (c-legal : old_legal before s (pointer_or_stored e.fc e.c) ≡ legal m s (operand_of 0 fpc c))
        (fits : flags_fit (three_form e c 0 fpc) ≡ true) where
      abbrev new : Instruction
      new = three_form e c 0 fpc

      same_three : (isa : Source → Source → Source → Isa) (kind : Kind) (then : ℕ → ℕ → ℕ → Outcome)
          → ((x y z : Source) → old_performs before s (isa x y z) ≡ three_read before s x y z (then (old_value before s x) (old_value before s y) (old_value before s z)))
          → ((f : Form) → (target_legal m s f kind ≡ true) × ((x y z : ℕ) → performed m s f kind x y z ≡ then x y z))
          → Words new kind
          → Alike (with_three isa e) new
      same_three isa kind then asks performs-so words =
          record {
            acts =
                asks _ _ _
                ∙ rw (
                  decodes new kind fits words,
                  (performs-so (form_in (form_of new kind))).0,
                  (performs-so (form_in (form_of new kind))).1,
                  and-true (legal m s (operand_of e.fb 0 e.b)),
                  a_value e.fa e.a,
                  a_value e.fb e.b,
                  c-value,
                  a_legal e.fa e.a,
                  a_legal e.fb e.b,
                  c-legal,
                );
            well = rw (decodes new kind fits words);
          }

    -- a DEREF whose right side is read alike
    same_deref : (right : Source) (c fc fpc : ℕ)
        → old_value before s right ≡ value m s (operand_of fc fpc c)
        → old_legal before s right ≡ legal m s (operand_of fc fpc c)
        → flags_fit (deref_form e.a e.c c fc fpc) ≡ true
        → Alike (deref e.a e.c right) (deref_form e.a e.c c fc fpc)
    same_deref right c fc fpc c-value c-legal fits =
        let decoded = decodes (deref_form e.a e.c c fc fpc) Deref fits (record { mul_is = refl; jump_is = refl; aux_is = refl }, record { fpab_is = refl; data_is = refl }, refl, refl) in
        record { acts = rw (decoded, c-value, c-legal); well = rw decoded }

  module _ (e : Encoded) (k : Known e) where
    -- the three kinds that are carried over, by the opcode word that is 1
    same_kind : (c fpc : ℕ)
        → old_value before s (pointer_or_stored e.fc e.c) ≡ value m s (operand_of 0 fpc c)
        → old_legal before s (pointer_or_stored e.fc e.c) ≡ legal m s (operand_of 0 fpc c)
        → flags_fit (three_form e c 0 fpc) ≡ true
        → e.deref ≡ 0
        → Alike (meant e) (three_form e c 0 fpc)
    same_kind c fpc c-value c-legal fits not-deref =
        let three = same_three e c fpc c-value c-legal fits in
        by_bit e.add k.small.1.1.1.0
        (λ not-add. by_bit e.mul k.small.1.1.1.1.0
        (λ not-mul. meant_as (rw (not-add, not-mul, not-deref)) (three jump Jump (λ x y z. jumps x y z s) lands (λ f. (refl, λ x y z. refl))
        (record { mul_is = not-mul; jump_is = omega (arith, k.one, not-add, not-mul, not-deref); aux_is = not-add }, record { fpab_is = refl; data_is = refl }, refl)))
        (λ is_mul. meant_as (rw (not-add, is_mul)) (three mul Mul (λ x y z. asked 5 (eqb (x *ₚ z) y) (forward s)) (λ x y z. refl) (λ f. (refl, λ x y z. refl))
        (record { mul_is = is_mul; jump_is = omega (arith, k.one, not-add, is_mul, not-deref); aux_is = not-add }, record { fpab_is = refl; data_is = refl }))))
        (λ is-add. meant_as (rw is-add) (three add Add (λ x y z. asked 5 (eqb (x +ₚ z) y) (forward s)) (λ x y z. refl) (λ f. (refl, λ x y z. refl))
        (record { mul_is = omega (arith, k.one, is-add); jump_is = omega (arith, k.one, is-add); aux_is = is-add }, record { fpab_is = refl; data_is = refl })))

    -- flags of A and B that are 0 or 1, and one flag of C's two
    three_fits : (c fpc : ℕ) → fpc < 2 → flags_fit (three_form e c 0 fpc) ≡ true
    three_fits c fpc low =
        rw (passes k.small.0, passes k.small.1.0, passes low, or-true (eqb e.fa 0), or-true (eqb e.fb 0))

    carried_alike : e.deref ≡ 0 → Alike (meant e) (carried e)
    carried_alike not-deref =
        by_bit e.fc k.small.1.1.0
        (λ cell. turned (rw cell) (same_kind e.c 0 (rw cell) (rw cell) (three_fits e.c 0 (lit< tt)) not-deref))
        (λ frame. turned (rw frame) (same_kind 0 1 (rw frame fp_value) (rw frame) (three_fits 0 1 (lit< tt)) not-deref))

    exchanged_alike : e.deref ≡ 1 → Alike (meant e) (exchanged e)
    exchanged_alike is-deref =
        let none : (e.add ≡ 0) × (e.mul ≡ 0) = (omega (arith, k.one, is-deref), omega (arith, k.one, is-deref)) in
        meant_as (rw (none.0, none.1, is-deref))
        (by_bit e.aux1 (k.fixed is-deref).aux
        (λ aux. turned (rw aux) (same_deref e (right_of e.aux1 e.fb e.b) 0 0 1 (rw aux fp_value) (rw aux) refl))
        (λ aux. turned (rw aux) (same_deref e (right_of e.aux1 e.fb e.b) e.b e.fb 0 (rw aux (a_value e.fb e.b)) (rw aux (a_legal e.fb e.b))
        (rw (passes k.small.1.0, or-true (eqb e.fb 0))))))

    -- a translatable instruction and its translation
    pub alike : Alike (meant e) (translated e)
    unfolding translated
    alike =
        by_bit e.deref k.small.1.1.1.1.1.0
        (λ not-deref. turned (rw not-deref) (carried_alike not-deref))
        (λ is-deref. turned (rw is-deref) (exchanged_alike is-deref))
