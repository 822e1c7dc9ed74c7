-- Totals over rows: by induction on their number.
-- Assumes nothing.
use mathlib.Core.Path.{◌≡◌, refl, ap}
use mathlib.Core.Bool.{Bool, true, false, cond}
use Prim.Native.Nat.{ℕ, zero, suc, ◌+◌, ◌-◌, ◌≤◌, ◌<◌}
use native.Mathlib.Nat.{add-zero, add-suc}
use native.Mathlib.Numerals.{add-one}
use native.Mathlib.Omega.{arith}
use Rattle.word.proofs.Tests.{by_equal, by_test}
use Rattle.rules.specs.Bus.{total}

-- a row more
pub one_more : (f : ℕ → ℕ) (n : ℕ) → total f (n + 1) ≡ total f n + f n
one_more f n = rw (add-one n)

-- what counts no time counts nothing, and what counts is counted
pub counts_none : (b : Bool) (n : ℕ) → n ≡ 0 → cond b n 0 ≡ 0
counts_none true n e = e
counts_none false n e = refl

pub counts : (b : Bool) (n : ℕ) → (cond b n 0 ≡ 0 → ⊥) → (b ≡ true) × (n ≡ 0 → ⊥)
counts true n h = (refl, h)
counts false n h = absurd (h refl)

pub total_same : (f h : ℕ → ℕ) (n : ℕ) → ((r : ℕ) → r < n → f r ≡ h r) → total f n ≡ total h n
total_same f h zero e = refl
total_same f h (suc n) e = omega (arith, e n (omega arith), total_same f h n (λ r l. e r (omega arith)))

pub total_zero : (f : ℕ → ℕ) (n : ℕ) → ((r : ℕ) → r < n → f r ≡ 0) → total f n ≡ 0
total_zero f zero none = refl
total_zero f (suc n) none = omega (arith, none n (omega arith), total_zero f n (λ r h. none r (omega arith)))

-- rows that count once where a test holds count at most once each
pub total_most : (test : ℕ → Bool) (n : ℕ) → total (λ r. cond (test r) 1 0) n ≤ n
total_most test zero = omega arith
total_most test (suc n) =
    omega (arith, total_most test n, by_test (λ (x : ℕ). x ≤ 1) (test n) {x = 1} {y = 0} (λ _. omega arith) (λ _. omega arith))

-- k rows, and n more
pub total_split : (f : ℕ → ℕ) (k n : ℕ) → total f (k + n) ≡ total f k + total (λ j. f (k + j)) n
total_split f k zero = rw (add-zero k) (omega arith)
total_split f k (suc n) = rw (add-suc k n) (omega (arith, total_split f k n))

-- rows that count nothing leave a total
pub total_stays : (f : ℕ → ℕ) (k n : ℕ) → k ≤ n → ((r : ℕ) → k ≤ r → r < n → f r ≡ 0) → total f n ≡ total f k
total_stays f k n low none =
    let more : n ≡ k + (n - k) = omega arith in
    rw more (omega (arith, total_split f k (n - k), total_zero (λ j. f (k + j)) (n - k) (λ j h. none (k + j) (omega arith) (omega arith))))

-- a total is at least each of its terms
pub at_least : (f : ℕ → ℕ) (n r : ℕ) → r < n → f r ≤ total f n
at_least f zero r h = absurd (omega arith)
at_least f (suc n) r h =
    by_equal r n (λ e. omega (arith, ap f e)) (λ other. let before : r < n = omega arith in omega (arith, at_least f n r before))

-- a total is 0, or one of its terms isn't
pub total_cases : (f : ℕ → ℕ) (n : ℕ) (C : Type 0) → (total f n ≡ 0 → C) → ((r : ℕ) → r < n → (f r ≡ 0 → ⊥) → C) → C
total_cases f zero C none some = none refl
total_cases f (suc n) C none some =
    by_equal (f n) 0 (λ e. total_cases f n C (λ z. none (omega arith)) (λ r h. some r (omega arith))) (some n (omega arith))
