-- A list of numbers by their places: its length, its numbers and its sum.
-- Assumes nothing.
use mathlib.Core.Path.{◌≡◌, refl, sym, ap, ◌∙◌}
use mathlib.Core.Bool.{cond}
use mathlib.Core.List.{List, [], ◌∷◌, ◌++◌}
use Prim.Native.Nat.{ℕ, zero, suc, ◌+◌, ◌*◌, ◌≤◌, ◌<◌}
use native.Mathlib.Nat.{add-zero}
use native.Mathlib.Omega.{arith}
use borrow.Author.Tests.{eq-eqb, ne_eqb}
use lib.Dec.{eqb}
use lib.ListN.{length, get_or, take, length-append, get_or-append}
use lib.Seq.{get_or_at, ext_get_or}
use Rattle.word.specs.Bytes.{concatenated}
use Rattle.word.proofs.Tests.{by_equal}
use Rattle.rules.specs.Bus.{total}
use Rattle.rules.proofs.Totals.{total_zero}
use Rattle.grid_spec.specs.Grid.{sum_of}

-- f 0, f 1 and so on, n of them
abbrev pub listed : (ℕ → ℕ) → ℕ → List ℕ
listed f n = concatenated (λ k. f k ∷ []) n

sum_append : (xs ys : List ℕ) → sum_of (xs ++ ys) ≡ sum_of xs + sum_of ys
sum_append [] ys = omega arith
sum_append (x ∷ xs) ys = omega (arith, sum_append xs ys)

module _ (f : ℕ → ℕ) where
  pub listed_length : (n : ℕ) → length (listed f n) ≡ n
  unfolding concatenated
  listed_length zero = refl
  listed_length (suc n) = length-append (listed f n) (f n ∷ []) ∙ omega (arith, listed_length n)

  pub listed_at : (n k : ℕ) → k < n → get_or (listed f n) k 0 ≡ f k
  unfolding concatenated
  listed_at zero k h = absurd (omega arith)
  listed_at (suc n) k h =
      by_equal k n
      (λ e. rw e (get_or_at (listed f n) (f n) [] 0 n (listed_length n)))
      (λ other.
      let inside : k < n = omega arith in
      get_or-append (listed f n) (f n ∷ []) 0 k (omega (arith, listed_length n)) ∙ listed_at n k inside)

  pub listed_sum : (n : ℕ) → sum_of (listed f n) ≡ total f n
  unfolding concatenated
  listed_sum zero = refl
  listed_sum (suc n) = sum_append (listed f n) (f n ∷ []) ∙ omega (arith, listed_sum n)

  -- a list of these numbers
  pub is_listed : (g : List ℕ) (n : ℕ) → length g ≡ n → ((k : ℕ) → k < n → get_or g k 0 ≡ f k) → g ≡ listed f n
  is_listed g n e same =
      ext_get_or 0 g (listed f n) (omega (arith, listed_length n))
      (λ k h. let inside : k < n = omega arith in same k inside ∙ sym (listed_at n k inside))

-- the sum of a list is that of its numbers
pub sum_total : (g : List ℕ) (n : ℕ) → length g ≡ n → sum_of g ≡ total (λ k. get_or g k 0) n
sum_total g n e = ap sum_of (is_listed (λ k. get_or g k 0) g n e (λ k h. refl)) ∙ listed_sum (λ k. get_or g k 0) n

-- one number more, and a beginning is at most the whole; so is a number
pub sum_next : (g : List ℕ) (k : ℕ) → sum_of (take (suc k) g) ≡ sum_of (take k g) + get_or g k 0
sum_next [] zero = refl
sum_next [] (suc k) = refl
sum_next (x ∷ xs) zero = omega arith
sum_next (x ∷ xs) (suc k) = omega (arith, sum_next xs k)

pub sum_take : (g : List ℕ) (k : ℕ) → sum_of (take k g) ≤ sum_of g
sum_take [] zero = omega arith
sum_take [] (suc k) = omega arith
sum_take (x ∷ xs) zero = omega arith
sum_take (x ∷ xs) (suc k) = omega (arith, sum_take xs k)

pub at_most_sum : (g : List ℕ) (k : ℕ) → get_or g k 0 ≤ sum_of g
at_most_sum g k = omega (arith, sum_next g k, sum_take g (suc k))

pub total_add : (f h : ℕ → ℕ) (n : ℕ) → total (λ k. f k + h k) n ≡ total f n + total h n
total_add f h zero = refl
total_add f h (suc n) = omega (arith, total_add f h n)

-- one place of n holds j
pub total_one : (j n : ℕ) → j < n → total (λ k. cond (eqb j k) 1 0) n ≡ 1
total_one j zero h = absurd (omega arith)
total_one j (suc n) h =
    by_equal j n
    (λ e.
    let before = total_zero (λ k. cond (eqb j k) 1 0) n (λ k l. let other : j ≡ k → ⊥ = λ s. omega arith in rw (ne_eqb j k other)) in
    rw (eq-eqb j n e) (omega arith))
    (λ other.
    let inside : j < n = omega arith in
    rw (ne_eqb j n other) (add-zero _ ∙ total_one j n inside))
