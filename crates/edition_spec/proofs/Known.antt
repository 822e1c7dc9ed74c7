-- What is known of words that are translatable, and that others have one of document 02's reasons.
-- Assumes nothing.
use mathlib.Core.Path.{◌≡◌, sym, ◌∙◌}
use mathlib.Core.Logic.{◌↔◌}
use mathlib.Core.Bool.{true, false, true≢false, ◌||◌, cond}
use mathlib.Core.List.{List, [], ◌∷◌}
use Prim.Native.Nat.{ℕ, suc, ◌+◌, ◌≤◌, ◌<◌}
use native.Mathlib.Omega.{arith}
use lib.Dec.{leb, eqb, lit<}
use lib.ListN.{get_or}
use borrow.Author.Tests.{eqb-true, eq-eqb, ne_eqb, leb-true, le-leb}
use Rattle.word.proofs.Below.{AllBelow, each_below}
use Rattle.word.proofs.Tests.{each, either, cases, by_order, by_equal}
use Rattle.edition_machine.specs.declared.Encoded.{Encoded}
use Rattle.edition_spec.specs.Translatable.{
  flags,
  flags_known,
  one_opcode,
  deref_fixed,
  no_precompile,
  translatable,
  Reason,
  is_precompile,
  precompile_index,
  several_or_no_opcodes,
  flag_outside,
  deref_flags,
  deref_aux,
  aux_of_another,
  aux_2,
}

-- every number of a list is 0 or 1
abbrev pub Small : List ℕ → Type 0
Small = AllBelow 2

-- AUX_1 and the flags of a DEREF, as the draft fixes them
pub record Fixed (e : Encoded) : Type 0 where
  pub flag_a : e.fa ≡ 0
  pub flag_c : e.fc ≡ 1
  pub aux : e.aux1 < 2
  pub flag_b : e.aux1 ≡ 0 → e.fb ≡ 1

pub record Known (e : Encoded) : Type 0 where
  pub no_call : e.precompile ≡ 0
  pub no_index : e.index ≡ 0
  pub small : Small (flags e)
  pub one : e.add + e.mul + e.deref + e.jump ≡ 1
  pub fixed : e.deref ≡ 1 → Fixed e
  pub unused : (e.deref ≡ 1 → ⊥) → e.aux1 ≡ 0
  pub unused_2 : e.aux2 ≡ 0

-- a test of a flag
below : {x : ℕ} → leb x 1 ≡ true → x < 2
below {x} t = omega (arith, leb-true x 1 t)

pub passes : {x : ℕ} → x < 2 → leb x 1 ≡ true
passes {x} low = le-leb x 1 (omega arith)

module _ (e : Encoded) where
  small_of : flags_known e ≡ true → Small (flags e)
  small_of t =
      let (a, (b, (c, (d, (f, (g, h)))))) =
      each (leb e.fa 1) (leb e.fb 1 ∷ leb e.fc 1 ∷ leb e.add 1 ∷ leb e.mul 1 ∷ leb e.deref 1 ∷ leb e.jump 1 ∷ []) t in
      (below a, (below b, (below c, (below d, (below f, (below g, (below h, lit< tt)))))))

  fixed_of : deref_fixed e ≡ true → Fixed e
  fixed_of t =
      let (a, (c, (x, y))) = each (eqb e.fa 0) (eqb e.fc 1 ∷ leb e.aux1 1 ∷ (eqb e.aux1 1 || eqb e.fb 1) ∷ []) t in
      record {
        flag_a = eqb-true _ _ a;
        flag_c = eqb-true _ _ c;
        aux = below x;
        flag_b = λ z. either (eqb e.aux1 1) (eqb e.fb 1) (λ q. absurd (omega (arith, z, eqb-true e.aux1 1 q))) (λ q. eqb-true _ _ q) y;
      }

  pub known : translatable e ≡ true → Known e
  unfolding translatable
  known t =
      let (call, (flags, (one, (aux, aux2)))) =
      each (no_precompile e) (flags_known e ∷ one_opcode e ∷ cond (eqb e.deref 1) (deref_fixed e) (eqb e.aux1 0) ∷ eqb e.aux2 0 ∷ []) t in
      let (is, index) = each (eqb e.precompile 0) (eqb e.index 0 ∷ []) call in
      record {
        no_call = eqb-true _ _ is;
        no_index = eqb-true _ _ index;
        small = small_of flags;
        one = eqb-true _ _ one;
        fixed = λ d. fixed_of (rw (eq-eqb _ _ d) at aux);
        unused = λ not. eqb-true _ _ (rw (ne_eqb _ _ not) at aux);
        unused_2 = eqb-true _ _ aux2;
      }

  -- a translatable instruction has none of the reasons
  none : Known e → Reason e → ⊥
  none k (is_precompile not) = not k.no_call
  none k (precompile_index not) = not k.no_index
  none k (several_or_no_opcodes not) = not k.one
  none k (flag_outside i above) = omega (arith, each_below (flags e) k.small i)
  none k (deref_flags d not) = not (k.fixed d).flag_a (k.fixed d).flag_c (k.fixed d).flag_b
  none k (deref_aux d above) = omega (arith, (k.fixed d).aux)
  none k (aux_of_another not used) = used (k.unused not)
  none k (aux_2 not) = not k.unused_2

  -- a list with a number above 1, or none
  small_or : (l : List ℕ) → ((k : ℕ) → 1 < get_or l k 0 → Reason e) → (Small l → Reason e) → Reason e
  small_or [] above all = all (lit< tt)
  small_or (x ∷ xs) above all =
      by_order 1 x (above 0) (λ low. small_or xs (λ k. above (suc k)) (λ rest. all (omega arith, rest)))

  flags_pass : Small (flags e) → flags_known e ≡ true
  flags_pass (a, (b, (c, (d, (f, (g, (h, _))))))) =
      rw (passes a, passes b, passes c, passes d, passes f, passes g, passes h)

  deref_or : e.deref ≡ 1 → (deref_fixed e ≡ true → Reason e) → Reason e
  deref_or d all =
      by_order 1 e.aux1 (deref_aux d)
      (λ low. by_equal e.fa 0
      (λ a. by_equal e.fc 1
      (λ c. cases (eqb e.aux1 1 || eqb e.fb 1)
      (λ t. all (rw (a, c, le-leb e.aux1 1 low, t)))
      (λ t. deref_flags d (λ _ _ flag. true≢false (sym (goes_with low flag) ∙ t))))
      (λ not. deref_flags d (λ _ c _. not c)))
      (λ not. deref_flags d (λ a _ _. not a)))
    where
      goes_with : e.aux1 ≤ 1 → (e.aux1 ≡ 0 → e.fb ≡ 1) → eqb e.aux1 1 || eqb e.fb 1 ≡ true
      goes_with low flag = by_equal e.aux1 1 (λ x. rw x) (λ not. rw (ne_eqb _ _ not, eq-eqb _ _ (flag (omega (arith, low, not)))))

  some : translatable e ≡ false → Reason e
  unfolding translatable
  some f =
      by_equal e.precompile 0
      (λ call. by_equal e.index 0
      (λ index. small_or (flags e) flag_outside
      (λ small. by_equal (e.add + e.mul + e.deref + e.jump) 1
      (λ one. by_equal e.aux2 0
      (λ aux2. by_equal e.deref 1
      (λ d. deref_or d (λ fixed. absurd (true≢false (sym (rw (call, index, flags_pass small, eq-eqb _ _ one, eq-eqb _ _ d, fixed, aux2)) ∙ f))))
      (λ not. by_equal e.aux1 0
      (λ aux. absurd (true≢false (sym (rw (call, index, flags_pass small, eq-eqb _ _ one, ne_eqb _ _ not, aux, aux2)) ∙ f)))
      (aux_of_another not)))
      aux_2)
      several_or_no_opcodes))
      precompile_index)
      is_precompile

  -- refused exactly for one of the reasons
  pub refused_exactly : (translatable e ≡ false) ↔ Reason e
  refused_exactly = (some, λ r. cases (translatable e) (λ t. absurd (none (known t) r)) (λ t. t))
