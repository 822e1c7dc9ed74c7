-- Decimal digits and their values undo one another; a number's digits as a line has them and as a field has them.
-- Assumes nothing.
use Prim.Native.Nat.{ℕ, zero, suc, ◌+◌, ◌/◌, ◌%◌, ◌^◌, ◌<◌, ◌≤◌}
use mathlib.Core.List.{List, [], ◌∷◌, ◌++◌}
use mathlib.Core.Path.{◌≡◌, ap, ◌∙◌}
use native.Mathlib.Nat.{pow-suc, div-lt_iff_lt-mul}
use native.Mathlib.Omega.{arith}
use lib.Dec.{lit<}
use borrow.Author.Tests.{lt-ltb, le-ltb}
use Rattle.lines.specs.Line.{digit, decimal_in, decimal}
use Rattle.text_patterns.specs.Fields.{Digits, numeral}
use Rattle.word.proofs.Tests.{by_order}
use Rattle.text_patterns.proofs.Number.{numeral_small, numeral_large}
use Rattle.text_fields.specs.Digit.{decimal_value}

digit_value : (d : ℕ) → d < 10 → decimal_value (digit d) ≡ d
unfolding decimal_value
digit_value d h = rw (le-ltb (48 + d) 48 (omega arith), lt-ltb (48 + d) 58 (omega arith)) (omega arith)

value_digit : (b : ℕ) → decimal_value b < 10 → digit (decimal_value b) ≡ b
unfolding decimal_value
value_digit b =
    by_order b 48 (λ a. rw (lt-ltb b 48 a) (λ h. omega arith))
    (λ a. by_order b 58 (λ c. rw (le-ltb b 48 a, lt-ltb b 58 c) (λ h. omega arith))
    (λ c. rw (le-ltb b 48 a, le-ltb b 58 c) (λ h. omega arith)))

pub tens : Digits 10 digit decimal_value
tens = record { some = omega arith; value_byte = digit_value; byte_value = value_digit }

-- a decimal of enough digits is the number's
decimal_by : (k x : ℕ) → x < 10 ^ suc k → numeral digit x ≡ decimal_in (suc k) x
unfolding decimal_in
decimal_by zero x h = let small : x < 10 = omega arith in numeral_small digit x small ∙ rw (lt-ltb x 10 small)
decimal_by (suc k) x h =
    by_order x 10 (λ a. numeral_small digit x a ∙ rw (lt-ltb x 10 a))
    (λ a. numeral_large digit x a
    ∙ rw (le-ltb x 10 a) (ap (λ (l : List ℕ). l ++ (digit (x % 10) ∷ [])) (decimal_by k (x / 10) ((div-lt_iff_lt-mul (lit< tt)).1 (rw (pow-suc 10 (suc k)) at h)))))

pub decimal_is : (x : ℕ) → x < 2 ^ 64 → numeral digit x ≡ decimal x
decimal_is x h = decimal_by 19 x (omega arith)

-- numbers of one, two and three digits
pub one_digit : (x : ℕ) → x < 10 → decimal x ≡ digit x ∷ []
unfolding decimal_in
one_digit x h = rw (lt-ltb x 10 h)

pub two_digits : (x : ℕ) → 10 ≤ x → x < 100 → decimal x ≡ digit (x / 10) ∷ digit (x % 10) ∷ []
unfolding decimal_in
two_digits x l u = rw (le-ltb x 10 l, lt-ltb (x / 10) 10 (omega arith))

pub three_digits : (x : ℕ) → 100 ≤ x → x < 1000 → decimal x ≡ digit (x / 100) ∷ digit (x / 10 % 10) ∷ digit (x % 10) ∷ []
unfolding decimal_in
three_digits x l u =
    let e : x / 100 ≡ x / 10 / 10 = omega arith in
    rw (le-ltb x 10 (omega arith), le-ltb (x / 10) 10 (omega arith), lt-ltb (x / 10 / 10) 10 (omega arith), e)
