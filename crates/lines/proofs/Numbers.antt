-- A number's digits: how they are written from the last to the first, how many there are, and that they are the
-- number's.
-- Assumes nothing.
use Prim.Native.Nat.{ℕ, zero, suc, ◌+◌, ◌-◌, ◌/◌, ◌%◌, ◌^◌, ◌≤◌, ◌<◌}
use mathlib.Core.Bool.{Bool, true, false, cond}
use mathlib.Core.List.{List, [], ◌∷◌, ◌++◌}
use mathlib.Core.Path.{◌≡◌, ap, ◌∙◌}
use native.Mathlib.Nat.{pow-suc, one-le-pow, div-lt_iff_lt-mul}
use native.Mathlib.Omega.{arith}
use borrow.Author.Tests.{lt-ltb, le-ltb}
use lib.Dec.{ltb, lit<}
use lib.ListN.{length, take, drop, set, length-append, length-drop}
use lib.Seq.{set_split, drop_at, length-take-le, append_snoc, take_all}
use Rattle.lines.specs.Line.{digit, decimal_in, decimal, line_of}

-- a byte stored in front of those that stand
pub stored : (bytes : List ℕ) (k x : ℕ) → k < length bytes → drop k (set bytes k x) ≡ x ∷ drop (suc k) bytes
stored bytes k x h =
    ap (drop k) (set_split bytes k x h) ∙ drop_at (take k bytes) (x ∷ drop (suc k) bytes) k (length-take-le k bytes (omega arith))

module _ (bytes : List ℕ) (k rest : ℕ) (h : k < length bytes) where
  pub digit_more : 9 < rest → decimal_in (suc k) rest ++ drop (suc k) bytes ≡ decimal_in k (rest / 10) ++ drop k (set bytes k (digit (rest % 10)))
  unfolding decimal_in
  digit_more g =
      rw (le-ltb rest 10 (omega arith), stored bytes k (digit (rest % 10)) h)
      (append_snoc (decimal_in k (rest / 10)) (digit (rest % 10)) (drop (suc k) bytes))

  pub digit_last : rest ≤ 9 → decimal_in (suc k) rest ++ drop (suc k) bytes ≡ drop k (set bytes k (digit rest))
  unfolding decimal_in
  digit_last g = rw (lt-ltb rest 10 (omega arith), stored bytes k (digit rest) h)

-- the bytes from the first digit to the array's end
pub digits_stand : (bytes : List ℕ) (from : ℕ) {text : List ℕ} → 21 ≡ length bytes → drop from bytes ≡ text → take (21 - from) (drop from bytes) ≡ text
digits_stand bytes from long e = take_all (21 - from) (drop from bytes) (omega (arith, length-drop from bytes)) ∙ e

-- what is left after a digit is shorter, and is not all gone
pub power_left : (k rest : ℕ) → 9 < rest → rest < 10 ^ suc k → (0 < k) × (rest / 10 < 10 ^ k)
power_left zero rest g h = absurd (omega arith)
power_left (suc k) rest g h = (omega arith, (div-lt_iff_lt-mul (lit< tt)).1 (rw (pow-suc 10 (suc k)) at h))

-- at most k digits
choice_length : (b : Bool) (x : ℕ) (l : List ℕ) (d : ℕ) {k : ℕ} → length l ≤ k → length (cond b (x ∷ []) (l ++ (d ∷ []))) ≤ suc k
choice_length true x l d h = omega arith
choice_length false x l d h = omega (arith, length-append l (d ∷ []))

pub digits_most : (k x : ℕ) → length (decimal_in k x) ≤ k
unfolding decimal_in
digits_most zero x = omega arith
digits_most (suc k) x = choice_length (ltb x 10) (digit x) (decimal_in k (x / 10)) (digit (x % 10)) (digits_most k (x / 10))

-- one digit for each power of ten up to the number, and one more
pub digits_exactly : (n k x : ℕ) → k < n → x < 10 ^ suc k → (0 < k → 10 ^ k ≤ x) → length (decimal_in n x) ≡ suc k
unfolding decimal_in
digits_exactly zero k x h above low = absurd (omega arith)
digits_exactly (suc n) zero x h above low = rw (lt-ltb x 10 (omega (arith, pow-suc 10 0)))
digits_exactly (suc n) (suc k) x h above low =
    let some = low (omega arith) in
    let high = rw (pow-suc 10 (suc k), pow-suc 10 k) at above in
    let here = rw (pow-suc 10 k) at some in
    rw (le-ltb x 10 (omega (arith, one-le-pow k 10 (lit< tt))), length-append (decimal_in n (x / 10)) (digit (x % 10) ∷ []))
    (omega (arith, digits_exactly n k (x / 10) (omega arith) (rw (pow-suc 10 k) (omega arith)) (λ _. omega arith)))

pub line_most : (name : List ℕ) (x : ℕ) → length (line_of name x) ≤ length name + 21
line_most name x =
    omega (arith, length-append name (decimal x ++ (10 ∷ [])), length-append (decimal x) (10 ∷ []), digits_most 20 x)
