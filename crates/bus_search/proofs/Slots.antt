-- The same tuple has the same slot, and a slot holds one tuple.
-- Assumes nothing.
use Rattle.std.proofs.Common.{◌≡◌, ℕ, zero, suc, ◌+◌, ◌-◌, ◌*◌, ◌/◌, ◌≤◌, ◌<◌, Bool, true, false, cond, ◌&&◌, eqb, List, Option, Some, None, slice_index, sym, refl, ap, ◌∙◌, subst, true≢false, arith, eq-eqb, eqb-true}
use Rattle.std.specs.Prelude.{nat_le}
use Rattle.std.proofs.lemmas.Bool.{le-leb, lt-leb}
use Rattle.std.proofs.lemmas.Option.{cond_some, none-some}
use Rattle.rules.specs.Bus.{Tuple, same_tuple}
use Rattle.bus_tuples.proofs.Tuples.{same_tuple_lem}
use Rattle.bus_search.specs.Marks.{is_marked}
use Rattle.bus_search.specs.Slots.{key_of, tuple_in, stepped, descended, place_of, holds, slot_of, is_slot}
use Rattle.bus_search.specs.declared.Window.{Window}

pub same_self : (σ : Tuple) → same_tuple σ σ ≡ true
same_self σ =
    rw (eq-eqb σ.aux σ.aux refl, eq-eqb σ.left σ.left refl, eq-eqb σ.right σ.right refl, eq-eqb σ.out σ.out refl)

-- a number that holds a tuple
pub held : (σ : Tuple) (x : ℕ) → tuple_in x ≡ σ → same_tuple (tuple_in x) σ ≡ true
held σ x e = subst (λ τ. same_tuple τ σ ≡ true) (sym e) (same_self σ)

module _ (w : Window) where
  found : (σ : Tuple) (p s : ℕ) (a m b : Bool) → holds w.slots 0 σ ≡ a → holds w.slots p σ ≡ b
      → cond a (Some 0) (cond (m && b) (Some p) None) ≡ Some s → tuple_in (slice_index w.slots s) ≡ σ
  found σ p s true m b e f is = rw (← (cond_some true 0 s is).1) (same_tuple_lem _ σ e)
  found σ p s false true b e f is =
      let here = cond_some b p s is in
      rw (← here.1) (same_tuple_lem _ σ (f ∙ here.0))
  found σ p s false false b e f is = absurd (none-some s is)

  slot_holds : (σ : Tuple) (s : ℕ) → slot_of w σ ≡ Some s → tuple_in (slice_index w.slots s) ≡ σ
  unfolding slot_of
  slot_holds σ s =
      found σ (place_of w.slots σ) s (holds w.slots 0 σ) (is_marked w.marks σ) (holds w.slots (place_of w.slots σ) σ) refl refl

  -- as the code finds it
  module _ (σ : Tuple) where
    pub slot_zero : holds w.slots 0 σ ≡ true → Some 0 ≡ slot_of w σ
    unfolding slot_of
    slot_zero e = rw e

    pub slot_unmarked : holds w.slots 0 σ ≡ false → is_marked w.marks σ ≡ false → None ≡ slot_of w σ
    unfolding slot_of
    slot_unmarked e f = rw (e, f)

    pub slot_is : (p : ℕ) (b : Bool) → p ≡ place_of w.slots σ → holds w.slots 0 σ ≡ false → is_marked w.marks σ ≡ true
        → holds w.slots p σ ≡ b → cond b (Some p) None ≡ slot_of w σ
    unfolding slot_of
    slot_is p b at e f g =
        let there = sym g ∙ ap (λ q. holds w.slots q σ) at in
        rw (e, f) (λ i. cond (there i) (Some (at i)) None)

  -- where a tuple has a slot, a tuple has that slot where it is the same
  pub slot_same : (σ τ : Tuple) (s : ℕ) → slot_of w σ ≡ Some s → is_slot (slot_of w τ) s ≡ same_tuple τ σ
  slot_same σ τ s is = go (same_tuple τ σ) refl (slot_of w τ) refl
    where
      go : (b : Bool) → same_tuple τ σ ≡ b → (o : Option ℕ) → slot_of w τ ≡ o → is_slot o s ≡ b
      go true e o f = rw (sym f, ap (slot_of w) (same_tuple_lem τ σ e), is) (eq-eqb s s refl)
      go false e None f = refl
      go false e (Some q) f = other (eqb q s) refl
        where
          other : (b : Bool) → eqb q s ≡ b → b ≡ false
          other false h = refl
          other true h =
              let here : slot_of w τ ≡ Some s = f ∙ ap Some (eqb-true q s h) in
              let same : τ ≡ σ = sym (slot_holds τ s here) ∙ slot_holds σ s is in
              absurd (true≢false (sym (same_self σ) ∙ subst (λ ρ. same_tuple ρ σ ≡ false) same e))

-- the steps to a tuple's place: one that is taken, one that is not, and those left
module _ (slots : List ℕ) (key : ℕ) where
  pub steps_on : (k at step : ℕ) → 0 < k
      → descended slots key k at step ≡ descended slots key (k - 1) (stepped slots key at step) (step / 2)
  unfolding descended
  steps_on k at step more =
      let is : k ≡ suc (k - 1) = omega arith in
      ap (λ n. descended slots key n at step) is

  pub steps_end : (k at step : ℕ) → k ≡ 0 → descended slots key k at step ≡ at
  unfolding descended
  steps_end k at step none = ap (λ n. descended slots key n at step) none

  pub step_taken : (at step : ℕ) → slice_index slots (at + step) ≤ key → stepped slots key at step ≡ at + step
  unfolding stepped
  step_taken at step below = rw (le-leb _ _ below)

  pub step_not : (at step : ℕ) → key < slice_index slots (at + step) → stepped slots key at step ≡ at
  unfolding stepped
  step_not at step above = rw (lt-leb _ _ above)

  -- the steps stay within the slots
  pub steps_within : (k at step : ℕ) → at < 1024 → at + 2 * step ≤ 1024 → descended slots key k at step < 1024
  unfolding descended stepped
  steps_within zero at step inside within = inside
  steps_within (suc k) at step inside within = go (nat_le (slice_index slots (at + step)) key) (λ n. steps_within k n (step / 2))
    where
      go : (b : Bool) → ((n : ℕ) → n < 1024 → n + 2 * (step / 2) ≤ 1024 → descended slots key k n (step / 2) < 1024)
          → descended slots key k (cond b (at + step) at) (step / 2) < 1024
      go true on = on (at + step) (omega arith) (omega arith)
      go false on = on at inside (omega arith)

-- what is found is one of the 1024 slots
pub slot_within : (w : Window) (σ : Tuple) {o : Option ℕ} {s : ℕ} → o ≡ slot_of w σ → o ≡ Some s → s < 1024
unfolding slot_of place_of
slot_within w σ {o} {s} answer is = go (holds w.slots 0 σ) (is_marked w.marks σ && holds w.slots (place_of w.slots σ) σ) (sym answer ∙ is)
  where
    go : (a b : Bool) → cond a (Some 0) (cond b (Some (place_of w.slots σ)) None) ≡ Some s → s < 1024
    go true b e = omega (arith, (cond_some true 0 s e).1)
    go false b e = omega (arith, (cond_some b (place_of w.slots σ) s e).1, steps_within w.slots (key_of σ) 10 0 512 (omega arith) (omega arith))
