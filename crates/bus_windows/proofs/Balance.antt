-- Where every push is balanced and as much is pushed as pulled in all, every pull is balanced: of no tuple more is
-- pushed than pulled, so of none less.
-- Assumes nothing.
use mathlib.Core.Path.{◌≡◌, refl, sym, ap, ◌∙◌, subst}
use mathlib.Core.Bool.{Bool, true, false, true≢false, ◌||◌, cond}
use Prim.Native.Nat.{ℕ, zero, suc, ◌+◌, ◌≤◌, ◌<◌}
use native.Mathlib.Omega.{arith}
use lib.Dec.{eqb}
use borrow.Author.Tests.{eqb-true, eqb-false, eq-eqb, ne_eqb}
use Rattle.rules.specs.Given.{Given, Tables, zero?}
use Rattle.rules.specs.Bus.{Tuple, same_tuple, pushed, pulled, pulls, instruction_of, total, pushed_to, pulled_to}
use Rattle.judge_spec.specs.Judged.{push_balanced, pull_balanced}
use Rattle.bus_tuples.proofs.Tuples.{same_tuple_lem}
use Rattle.bus_tuples.proofs.Totals.{total_same, total_zero}
use Rattle.bus_windows.specs.Senders.{push_times, pull_times}
use Rattle.bus_search.proofs.Slots.{same_self}

-- how often a tuple is sent by the rows below n, of which row r sends s r so often; and the rows with all that send it
-- left out
abbrev sent_to : (ℕ → Tuple) → (ℕ → ℕ) → Tuple → ℕ → ℕ
sent_to s w σ n = total (λ r. cond (same_tuple (s r) σ) (w r) 0) n

abbrev without : (ℕ → Tuple) → (ℕ → ℕ) → Tuple → ℕ → ℕ
without s w σ r = cond (same_tuple (s r) σ) 0 (w r)

module _ (s : ℕ → Tuple) (w : ℕ → ℕ) (σ : Tuple) where
  split : (n : ℕ) → total w n ≡ total (without s w σ) n + sent_to s w σ n
  split zero = refl
  split (suc n) = omega (arith, split n, either (same_tuple (s n) σ))
    where
      either : (b : Bool) → w n ≡ cond b 0 (w n) + cond b (w n) 0
      either true = omega arith
      either false = omega arith

  own : (n : ℕ) → sent_to s (without s w σ) σ n ≡ 0
  own n = total_zero (λ r. cond (same_tuple (s r) σ) (without s w σ r) 0) n (λ r h. either (w r) (same_tuple (s r) σ))
    where
      either : (x : ℕ) (b : Bool) → cond b (cond b 0 x) 0 ≡ 0
      either x true = refl
      either x false = refl

  others : (ρ : Tuple) → same_tuple σ ρ ≡ false → (n : ℕ) → sent_to s (without s w σ) ρ n ≡ sent_to s w ρ n
  others ρ differs n =
      total_same (λ r. cond (same_tuple (s r) ρ) (without s w σ r) 0) (λ r. cond (same_tuple (s r) ρ) (w r) 0) n
      (λ r h. either r (same_tuple (s r) ρ) refl (same_tuple (s r) σ) refl)
    where
      either : (r : ℕ) (b : Bool) → same_tuple (s r) ρ ≡ b → (d : Bool) → same_tuple (s r) σ ≡ d → cond b (cond d 0 (w r)) 0 ≡ cond b (w r) 0
      either r false e d f = refl
      either r true e false f = refl
      either r true e true f =
          let same : σ ≡ ρ = sym (same_tuple_lem (s r) σ f) ∙ same_tuple_lem (s r) ρ e in
          absurd (true≢false (sym (subst (λ τ. same_tuple τ ρ ≡ true) (sym same) (same_self ρ)) ∙ differs))

  -- nothing is sent, or there is a row that sends it
  sender_of : (n : ℕ) (C : Type 0) → (sent_to s w σ n ≡ 0 → C) → ((r : ℕ) → r < n → (w r ≡ 0 → ⊥) → s r ≡ σ → C) → C
  sender_of zero C none some = none refl
  sender_of (suc n) C none some = go (same_tuple (s n) σ) refl (eqb (w n) 0) refl (λ no. sender_of n C no (λ r h. some r (omega arith)))
    where
      go : (b : Bool) → same_tuple (s n) σ ≡ b → (z : Bool) → eqb (w n) 0 ≡ z → ((sent_to s w σ n ≡ 0 → C) → C) → C
      go true e false f earlier = some n (omega arith) (eqb-false (w n) 0 f) (same_tuple_lem (s n) σ e)
      go true e true f earlier = earlier (λ no. none (omega (arith, no, ap {B = ℕ} (λ b. cond b (w n) 0) e, eqb-true (w n) 0 f)))
      go false e z f earlier = earlier (λ no. none (omega (arith, no, ap {B = ℕ} (λ b. cond b (w n) 0) e)))

-- of no tuple more is sent by the first than by the second
module _ (s t : ℕ → Tuple) where
  abbrev AtMost : (ℕ → ℕ) → (ℕ → ℕ) → ℕ → ℕ → Type 0
  AtMost w v n m = (ρ : Tuple) → sent_to s w ρ n ≤ sent_to t v ρ m

  leave_out : (w v : ℕ → ℕ) (σ : Tuple) (n m : ℕ) → AtMost w v n m → AtMost (without s w σ) (without t v σ) n m
  leave_out w v σ n m most ρ = go (same_tuple σ ρ) refl
    where
      go : (b : Bool) → same_tuple σ ρ ≡ b → sent_to s (without s w σ) ρ n ≤ sent_to t (without t v σ) ρ m
      go true e = omega (arith, subst (λ τ. sent_to s (without s w σ) τ n ≡ 0) (same_tuple_lem σ ρ e) (own s w σ n))
      go false e = omega (arith, others s w σ ρ e n, others t v σ ρ e m, most ρ)

  at_most : (w v : ℕ → ℕ) (n m : ℕ) → AtMost w v n m → total w n ≤ total v m
  at_most w v zero m most = omega arith
  at_most w v (suc n) m most =
      let σ = s n in
      let fewer = at_most (without s w σ) (without t v σ) n m (leave_out w v σ n m (λ ρ. omega (arith, most ρ))) in
      let none : without s w σ n ≡ 0 = rw (same_self σ) in
      omega (arith, split s w σ (suc n), split t v σ m, most σ)

  all_equal : (w v : ℕ → ℕ) (n m : ℕ) → AtMost w v n m → total w n ≡ total v m → (σ : Tuple) → sent_to s w σ n ≡ sent_to t v σ m
  all_equal w v n m most same σ =
      omega (arith, split s w σ n, split t v σ m, most σ, at_most (without s w σ) (without t v σ) n m (leave_out w v σ n m most))

module _ (g : Given) (t : Tables) where
  abbrev push : ℕ → Tuple
  push r = pushed (instruction_of g t r) (t.exec r)

  abbrev pull : ℕ → Tuple
  pull k = pulled (t.ext k)

  pub totals_balance : ((r : ℕ) → r < t.height → push_balanced g t r ≡ true) → total (push_times g t) t.height ≡ total (pull_times t) t.ext_height
      → (k : ℕ) → pull_balanced g t k ≡ true
  totals_balance all same k =
      ap (λ b. zero? (pulls (t.ext k)) || b)
      (eq-eqb _ _ (all_equal push pull (push_times g t) (pull_times t) t.height t.ext_height most same (pull k)))
      ∙ or_true (zero? (pulls (t.ext k)))
    where
      or_true : (b : Bool) → (b || true) ≡ true
      or_true true = refl
      or_true false = refl

      most : AtMost push pull (push_times g t) (pull_times t) t.height t.ext_height
      most ρ =
          sender_of push (push_times g t) ρ t.height (pushed_to g t ρ t.height ≤ pulled_to t ρ t.ext_height)
          (λ none. omega (arith, none))
          (λ r h some is.
          let equal = eqb-true (pushed_to g t (push r) t.height) (pulled_to t (push r) t.ext_height) (rw (ne_eqb (push_times g t r) 0 some) at (all r h)) in
          subst (λ σ. pushed_to g t σ t.height ≤ pulled_to t σ t.ext_height) is (omega (arith, equal)))
