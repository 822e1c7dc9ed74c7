-- The theorem on decimals: read as digits, a number's text is the number, so no two numbers have one text.
-- Assumes nothing.
use Prim.Native.Nat.{ℕ, zero, suc, ◌+◌, ◌-◌, ◌*◌, ◌/◌, ◌%◌, ◌^◌, ◌<◌}
use mathlib.Core.Bool.{Bool, true, false}
use mathlib.Core.List.{List, [], ◌∷◌, ◌++◌}
use mathlib.Core.Path.{◌≡◌, refl, sym, ap, ◌∙◌}
use native.Mathlib.Nat.{pow-suc, div-lt_iff_lt-mul}
use native.Mathlib.Omega.{arith}
use lib.Dec.{ltb, lit<}
use Rattle.lines.specs.Line.{digit, decimal_in, decimal}

-- the number that digits are read as, after others
pub value_after : ℕ → List ℕ → ℕ
value_after before [] = before
value_after before (d ∷ l) = value_after (10 * before + (d - 48)) l

after_last : (before : ℕ) (l : List ℕ) (d : ℕ) → value_after before (l ++ (digit d ∷ [])) ≡ 10 * value_after before l + d
unfolding value_after
after_last before [] d = omega arith
after_last before (x ∷ l) d = after_last (10 * before + (x - 48)) l d

-- the digits before the last are read as the quotient, or the number has one digit
last_digit : (b : Bool) (k x : ℕ) → ltb x 10 ≡ b → value_after 0 (decimal_in k (x / 10)) ≡ x / 10 → value_after 0 (decimal_in (suc k) x) ≡ x
unfolding decimal_in value_after
last_digit true k x e h = rw e (omega arith)
last_digit false k x e h = rw (e, after_last 0 (decimal_in k (x / 10)) (x % 10), h) (omega arith)

digits_value : (k x : ℕ) → x < 10 ^ k → value_after 0 (decimal_in k x) ≡ x
unfolding decimal_in value_after
digits_value zero x h = omega arith
digits_value (suc k) x h =
    last_digit (ltb x 10) k x refl (digits_value k (x / 10) ((div-lt_iff_lt-mul (lit< tt)).1 (rw (pow-suc 10 k) at h)))

pub decimal_value_lem : (x : ℕ) → x < 2 ^ 64 → value_after 0 (decimal x) ≡ x
decimal_value_lem x h = digits_value 20 x (omega arith)

pub decimal_injective : (x y : ℕ) → x < 2 ^ 64 → y < 2 ^ 64 → decimal x ≡ decimal y → x ≡ y
decimal_injective x y hx hy e = sym (decimal_value_lem x hx) ∙ (ap (value_after 0) e ∙ decimal_value_lem y hy)
