-- A bus that is equal for every row's tuple is equal for every tuple: a tuple with a total that isn't 0 is some row's,
-- and else both totals are 0.
use mathlib.Core.Path.{◌≡◌, refl, sym, ◌∙◌, subst}
use mathlib.Core.Bool.{Bool, true, false, ◌||◌, true≢false, cond}
use Prim.Native.Nat.{ℕ, ◌<◌}
use lib.Dec.{eqb}
use borrow.Author.Tests.{eqb-true, eqb-false, eq-eqb, ne_eqb}
use Rattle.rules.specs.Given.{Given, Tables, zero?}
use Rattle.rules.specs.Bus.{Tuple, same_tuple, pushes, pulled, pulls, total, pushed_to, pulled_to, instruction_of, balanced}
use Rattle.rules.proofs.Totals.{counts, total_cases}
use Rattle.rules.proofs.Tuples.{same_tuple_lem}
use Rattle.judge_spec.specs.Judged.{pushed_at}
use Rattle.judge_spec.specs.Refusal.{Equal, Pushes, Pulls}

module _ (g : Given) (t : Tables) where
  -- the test of a row that counts a tuple n times
  pub row_equal : (n : ℕ) (σ : Tuple) → (zero? n || balanced g t σ) ≡ true → (n ≡ 0 → ⊥) → Equal g t σ
  row_equal n σ e h = go (zero? n) refl
    where
      go : (z : Bool) → zero? n ≡ z → Equal g t σ
      go true c = absurd (h (eqb-true n 0 c))
      go false c = eqb-true (pushed_to g t σ t.height) (pulled_to t σ t.ext_height) (rw c at e)

  pub row_unequal : (n : ℕ) (σ : Tuple) → (zero? n || balanced g t σ) ≡ false → (n ≡ 0 → ⊥) × (Equal g t σ → ⊥)
  row_unequal n σ e = go (zero? n) refl
    where
      go : (z : Bool) → zero? n ≡ z → (n ≡ 0 → ⊥) × (Equal g t σ → ⊥)
      go true c = absurd (true≢false (rw c at e))
      go false c = (eqb-false n 0 c, eqb-false (pushed_to g t σ t.height) (pulled_to t σ t.ext_height) (rw c at e))

  pub row_test : (n : ℕ) (σ : Tuple) → ((n ≡ 0 → ⊥) → Equal g t σ) → (zero? n || balanced g t σ) ≡ true
  row_test n σ e = go (zero? n) refl
    where
      go : (z : Bool) → zero? n ≡ z → (zero? n || balanced g t σ) ≡ true
      go true c = rw c
      go false c = rw c (eq-eqb (pushed_to g t σ t.height) (pulled_to t σ t.ext_height) (e (eqb-false n 0 c)))

  pub row_fails : (n : ℕ) (σ : Tuple) → (n ≡ 0 → ⊥) → (Equal g t σ → ⊥) → (zero? n || balanced g t σ) ≡ false
  row_fails n σ h e = rw (ne_eqb n 0 h) (ne_eqb (pushed_to g t σ t.height) (pulled_to t σ t.ext_height) e)

  -- every tuple is equal where every row's is
  pub bus_equal : ((r : ℕ) → r < t.height → Pushes g t r → Equal g t (pushed_at g t r))
      → ((r : ℕ) → r < t.ext_height → Pulls g t r → Equal g t (pulled (t.ext r)))
      → (σ : Tuple) → Equal g t σ
  bus_equal pushing pulling σ =
      total_cases (λ r. cond (same_tuple (pushed_at g t r) σ) (pushes (instruction_of g t r)) 0) t.height (Equal g t σ)
      (λ none-pushed.
      total_cases (λ r. cond (same_tuple (pulled (t.ext r)) σ) (pulls (t.ext r)) 0) t.ext_height (Equal g t σ)
      (λ none-pulled. none-pushed ∙ sym none-pulled)
      (λ r h c.
      let k = counts (same_tuple (pulled (t.ext r)) σ) (pulls (t.ext r)) c in
      subst (Equal g t) (same_tuple_lem (pulled (t.ext r)) σ k.0) (pulling r h k.1)))
      (λ r h c.
      let k = counts (same_tuple (pushed_at g t r) σ) (pushes (instruction_of g t r)) c in
      subst (Equal g t) (same_tuple_lem (pushed_at g t r) σ k.0) (pushing r h k.1))
