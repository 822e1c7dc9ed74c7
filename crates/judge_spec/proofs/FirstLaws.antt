-- The laws of `first`, for every test: by recursion on how many numbers are left, the number found is in range and
-- nothing before it fails.
use mathlib.Core.Path.{◌≡◌, refl, sym, ◌∙◌}
use mathlib.Core.Logic.{◌↔◌}
use mathlib.Core.Bool.{Bool, true, false, true≢false, cond}
use Prim.Native.Nat.{ℕ, zero, suc, ◌+◌, ◌-◌, ◌≤◌, ◌<◌}
use native.Mathlib.Numerals.{add-one}
use native.Mathlib.Omega.{arith}
use lib.Dec.{ltb}
use borrow.Author.Tests.{ltb-true, ltb-false}
use Rattle.judge_spec.specs.First.{first}

-- m is the first of n numbers from i on that fails, or the number after them
pub record IsFirst (passes : ℕ → Bool) (i n m : ℕ) : Type 0 where
  pub low : i ≤ m
  pub high : m ≤ i + n
  pub before : (k : ℕ) → i ≤ k → k < m → passes k ≡ true
  pub fails : m < i + n → passes m ≡ false

-- cond by its test
either_cases : (b : Bool) (P : ℕ → Type 0) (x y : ℕ) → (b ≡ true → P x) → (b ≡ false → P y) → P (cond b x y)
either_cases true P x y f g = f refl
either_cases false P x y f g = g refl

module _ (passes : ℕ → Bool) where
  -- a number from i on is i, or from suc i on
  from : (i k : ℕ) → i ≤ k → passes i ≡ true → (suc i ≤ k → passes k ≡ true) → passes k ≡ true
  from i k h e later = go (ltb i k) refl
    where
      go : (b : Bool) → ltb i k ≡ b → passes k ≡ true
      go true t = later (ltb-true i k t)
      go false t =
          let h' : k ≤ i = ltb-false i k t in
          let same : i ≡ k = omega arith in
          rw same at e

  pub is_first : (i n : ℕ) → IsFirst passes i n (first passes i n)
  unfolding first
  is_first i zero = record { low = omega arith; high = omega arith; before = λ k a b. absurd (omega arith); fails = λ h. absurd (omega arith) }
  is_first i (suc n) =
      either_cases (passes i) (λ m. IsFirst passes i (suc n) m) (first passes (suc i) n) i
      (λ e. passed e (is_first (suc i) n))
      (λ e. record { low = omega arith; high = omega arith; before = λ k a b. absurd (omega arith); fails = λ h. e })
    where
      passed : passes i ≡ true → IsFirst passes (suc i) n (first passes (suc i) n) → IsFirst passes i (suc n) (first passes (suc i) n)
      passed e f =
          record {
            low = omega arith;
            high = omega arith;
            before = λ k a b. from i k a e (λ h. f.before k h b);
            fails = λ h. f.fails (omega arith);
          }

  -- the loop's steps, for a loop that is at i and ends at n
  pub stops : (i n : ℕ) → i < n → passes i ≡ false → first passes i (n - i) ≡ i
  unfolding first
  stops i n h e =
      let left : n - i ≡ suc (n - suc i) = omega arith in
      rw (left, e)

  pub goes : (i n : ℕ) → i < n → passes i ≡ true → first passes i (n - i) ≡ first passes (suc i) (n - suc i)
  unfolding first
  goes i n h e =
      let left : n - i ≡ suc (n - suc i) = omega arith in
      rw (left, e)

  -- the same as the code counts
  pub goes_on : (i n : ℕ) → i < n → passes i ≡ true → first passes i (n - i) ≡ first passes (i + 1) (n - (i + 1))
  goes_on i n h e = rw (add-one i) (goes i n h e)

  pub ends : (i n : ℕ) → n ≤ i → first passes i (n - i) ≡ i
  unfolding first
  ends i n h =
      let left : n - i ≡ 0 = omega arith in
      rw left

  pub ended : (n : ℕ) → first passes n 0 ≡ n
  unfolding first
  ended n = refl

  pub first_bound : (n : ℕ) → first passes 0 n ≤ n
  first_bound n = omega (arith, (is_first 0 n).high)

  pub first_fails : (n : ℕ) → first passes 0 n < n → passes (first passes 0 n) ≡ false
  first_fails n h = (is_first 0 n).fails (omega arith)

  pub first_before : (n k : ℕ) → k < first passes 0 n → passes k ≡ true
  first_before n k h = (is_first 0 n).before k (omega arith) h

  -- none fails exactly where the number after them is found
  pub first_none : (n : ℕ) → (first passes 0 n ≡ n) ↔ ((k : ℕ) → k < n → passes k ≡ true)
  first_none n = (none, found (ltb (first passes 0 n) n) refl)
    where
      none : first passes 0 n ≡ n → (k : ℕ) → k < n → passes k ≡ true
      none e k h = first_before n k (omega arith)

      found : (b : Bool) → ltb (first passes 0 n) n ≡ b → ((k : ℕ) → k < n → passes k ≡ true) → first passes 0 n ≡ n
      found true t all =
          let below : first passes 0 n < n = ltb-true (first passes 0 n) n t in
          absurd (true≢false (sym (all (first passes 0 n) below) ∙ first_fails n below))
      found false t all = omega (arith, ltb-false (first passes 0 n) n t, first_bound n)

  -- and so where the number found is not one of those tested
  pub first_past : (n : ℕ) → n ≤ first passes 0 n → (k : ℕ) → k < n → passes k ≡ true
  first_past n h k b = first_before n k (omega arith)

  -- a number that fails, with none before it that does, is the one found
  pub first_found : (n m : ℕ) → m < n → ((k : ℕ) → k < m → passes k ≡ true) → passes m ≡ false → first passes 0 n ≡ m
  first_found n m h before bad = by_less (ltb (first passes 0 n) m) refl
    where
      by_more : m ≤ first passes 0 n → (b : Bool) → ltb m (first passes 0 n) ≡ b → first passes 0 n ≡ m
      by_more low true t = absurd (true≢false (sym (first_before n m (ltb-true m (first passes 0 n) t)) ∙ bad))
      by_more low false t = omega (arith, ltb-false m (first passes 0 n) t)

      by_less : (b : Bool) → ltb (first passes 0 n) m ≡ b → first passes 0 n ≡ m
      by_less true t =
          let less : first passes 0 n < m = ltb-true (first passes 0 n) m t in
          absurd (true≢false (sym (before (first passes 0 n) less) ∙ first_fails n (omega arith)))
      by_less false t = by_more (ltb-false (first passes 0 n) m t) (ltb m (first passes 0 n)) refl
