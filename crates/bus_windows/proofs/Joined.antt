-- Both tables as one sequence of senders: its totals are those of the tables, and its first failure is the first
-- push's, else the first pull's.
-- Assumes nothing.
use mathlib.Core.Path.{◌≡◌, refl, ap, ◌∙◌}
use mathlib.Core.Bool.{Bool, true, false, ◌||◌, cond}
use Prim.Native.Nat.{ℕ, zero, suc, ◌+◌, ◌-◌, ◌≤◌, ◌<◌}
use native.Mathlib.Nat.{sub-zero}
use native.Mathlib.Omega.{arith}
use borrow.Author.Tests.{lt-ltb, le-ltb, ne_eqb}
use Rattle.rules.specs.Given.{Given, Tables, zero?}
use Rattle.rules.specs.Bus.{pushes, pulls, instruction_of, total, balanced}
use Rattle.judge_spec.specs.First.{first}
use Rattle.judge_spec.specs.Judged.{push_balanced, pull_balanced, first_push, first_pull}
use Rattle.bus_tuples.proofs.Totals.{total_same}
use Rattle.bus_windows.specs.Senders.{Sending, push_sent, pull_sent, sending_of, equal_at}

-- totals of two sequences, one after the other
pub total_join : (f a b : ℕ → ℕ) (h k : ℕ) → ((r : ℕ) → r < h → f r ≡ a r) → ((r : ℕ) → r < k → f (h + r) ≡ b r)
    → total f (h + k) ≡ total a h + total b k
total_join f a b h zero low high =
    let all : h + 0 ≡ h = omega arith in
    rw all (omega (arith, total_same f a h low))
total_join f a b h (suc k) low high =
    let more : h + suc k ≡ suc (h + k) = omega arith in
    rw more (omega (arith, total_join f a b h k low (λ r l. high r (omega arith)), high k (omega arith)))

pub total_none : (n : ℕ) → total (λ r. 0) n ≡ 0
total_none zero = refl
total_none (suc n) = omega (arith, total_none n)

-- a search by the same test, and one that begins later
first_same : (f a : ℕ → Bool) (i n : ℕ) → ((k : ℕ) → i ≤ k → k < i + n → f k ≡ a k) → first f i n ≡ first a i n
unfolding first
first_same f a i zero same = refl
first_same f a i (suc n) same =
    λ j. cond (same i (omega arith) (omega arith) j) (first_same f a (suc i) n (λ k low high. same k (omega arith) (omega arith)) j) i

first_shift : (f : ℕ → Bool) (h i n : ℕ) → first f (h + i) n ≡ h + first (λ k. f (h + k)) i n
unfolding first
first_shift f h i zero = refl
first_shift f h i (suc n) =
    let next : suc (h + i) ≡ h + suc i = omega arith in
    let later = ap (λ k. first f k n) next ∙ first_shift f h (suc i) n in
    go (f (h + i)) (first f (suc (h + i)) n) (first (λ k. f (h + k)) (suc i) n) later
  where
    go : (b : Bool) (x y : ℕ) → x ≡ h + y → cond b x (h + i) ≡ h + cond b y i
    go true x y e = e
    go false x y e = refl

module _ (g : Given) (t : Tables) where
  pub send_push : (r : ℕ) → r < t.height → sending_of g t r ≡ push_sent g t r
  unfolding sending_of
  send_push r h = rw (lt-ltb r t.height h)

  pub send_pull : (k : ℕ) → sending_of g t (t.height + k) ≡ pull_sent t k
  unfolding sending_of
  send_pull k =
      let past : t.height ≤ t.height + k = omega arith in
      let left : t.height + k - t.height ≡ k = omega arith in
      rw (le-ltb (t.height + k) t.height past, left)

  -- a sender that sends n times, as the tables have it
  tested : (s : Sending) (n : ℕ) → s.plus + s.minus ≡ n → (zero? (s.plus + s.minus) || balanced g t s.tuple) ≡ (zero? n || balanced g t s.tuple)
  tested s n e = ap (λ m. zero? m || balanced g t s.tuple) e

  equal_push : (r : ℕ) → r < t.height → equal_at g t r ≡ push_balanced g t r
  unfolding equal_at
  equal_push r h =
      ap (λ s. zero? (s.plus + s.minus) || balanced g t s.tuple) (send_push r h) ∙ tested (push_sent g t r) (pushes (instruction_of g t r)) (omega arith)

  equal_pull : (k : ℕ) → equal_at g t (t.height + k) ≡ pull_balanced g t k
  unfolding equal_at
  equal_pull k = ap (λ s. zero? (s.plus + s.minus) || balanced g t s.tuple) (send_pull k) ∙ tested (pull_sent t k) (pulls (t.ext k)) (omega arith)

  -- whether sender j sends says of its test
  module _ (j : ℕ) where
    pub equal_nothing : (sending_of g t j).plus + (sending_of g t j).minus ≡ 0 → equal_at g t j ≡ true
    unfolding equal_at
    equal_nothing none = ap (λ n. zero? n || balanced g t (sending_of g t j).tuple) none

    pub equal_sent : ((sending_of g t j).plus + (sending_of g t j).minus ≡ 0 → ⊥) → equal_at g t j ≡ balanced g t (sending_of g t j).tuple
    unfolding equal_at
    equal_sent some =
        ap (λ n. n || balanced g t (sending_of g t j).tuple) (ne_eqb ((sending_of g t j).plus + (sending_of g t j).minus) 0 some)

  -- the first that is unequal, of the pushing rows and of the pulling rows, as the code looks for them
  pub first_push_lem : first (equal_at g t) 0 (t.height - 0) ≡ first_push g t
  first_push_lem = rw (sub-zero t.height) (first_same (equal_at g t) (push_balanced g t) 0 t.height (λ r low high. equal_push r (omega arith)))

  pub first_pull_lem : first (equal_at g t) t.height (t.height + t.ext_height - t.height) ≡ t.height + first_pull g t
  first_pull_lem =
      let begin : t.height ≡ t.height + 0 = omega arith in
      let left : t.height + t.ext_height - t.height ≡ t.ext_height = omega arith in
      (λ i. first (equal_at g t) (begin i) (left i))
      ∙ first_shift (equal_at g t) t.height 0 t.ext_height
      ∙ ap (λ k. t.height + k) (first_same (λ k. equal_at g t (t.height + k)) (pull_balanced g t) 0 t.ext_height (λ k low high. equal_pull k))
