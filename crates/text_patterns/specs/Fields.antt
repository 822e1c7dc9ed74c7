-- Inner: the fields of a line: so many digits of a base, one digit of a range, a number in decimal that a byte ends.
use Rattle.std.specs.Prelude.{ℕ, zero, suc, ◌+◌, ◌*◌, ◌/◌, ◌%◌, ◌^◌, ◌<◌, Bool, cond, ◌&&◌, ◌||◌, List, [], ◌∷◌, ◌++◌, ◌≡◌, leb, ltb, eqb}
use Rattle.text_patterns.specs.Pattern.{Pattern, done, node}

-- a base, the byte of each digit, and the digit of each byte: at or above the base where it is none
pub record Digits (base : ℕ) (byte value : ℕ → ℕ) : Type 0 where
  pub some : 0 < base
  pub value_byte : (d : ℕ) → d < base → value (byte d) ≡ d
  pub byte_value : (b : ℕ) → value b < base → byte (value b) ≡ b

-- the lowest d digits of a number, highest first
unfoldable pub lowest : ℕ → (ℕ → ℕ) → ℕ → ℕ → List ℕ
lowest base byte zero y = []
lowest base byte (suc d) y = byte (y / base ^ d % base) ∷ lowest base byte d y

-- d more digits of a number whose first ones are x
unfoldable pub digits : ℕ → (ℕ → ℕ) → ℕ → ℕ → Pattern ℕ
digits base value zero x = done x
digits base value (suc d) x = node (λ b. ltb (value b) base) (λ b. digits base value d (base * x + value b))

-- one digit of a range
unfoldable pub one : (ℕ → ℕ) → ℕ → ℕ → Pattern ℕ
one value low high = node (λ b. leb low (value b) && leb (value b) high) (λ b. done (value b))

-- a number in decimal with no leading zero; k is more than enough digits
unfoldable pub numeral_by : (ℕ → ℕ) → ℕ → ℕ → List ℕ
numeral_by byte zero x = byte x ∷ []
numeral_by byte (suc k) x =
    let r : List ℕ = numeral_by byte k (x / 10) ++ (byte (x % 10) ∷ []) in
    cond (ltb x 10) (byte x ∷ []) r

unfoldable pub numeral : (ℕ → ℕ) → ℕ → List ℕ
numeral byte x = numeral_by byte x x

-- a digit d may follow the digits of x, in a number of at most high
abbrev pub follows : ℕ → ℕ → ℕ → Bool
follows high x d = ltb d 10 && (ltb 0 x && leb (10 * x + d) high)

-- the rest of a number of at most high whose first digits are x; k is more than enough digits
unfoldable pub number_from : (ℕ → ℕ) → ℕ → ℕ → ℕ → ℕ → Pattern ℕ
number_from value high end zero x = node (eqb end) (λ b. done x)
number_from value high end (suc k) x =
    node (λ b. eqb end b || follows high x (value b))
    (λ b. cond (eqb end b) (done x) (number_from value high end k (10 * x + value b)))

-- a number from low, which is 0 or 1, to high, and the byte that ends it
unfoldable pub number : (ℕ → ℕ) → ℕ → ℕ → ℕ → Pattern ℕ
number value low high end =
    node (λ b. ltb (value b) 10 && (leb low (value b) && leb (value b) high)) (λ b. number_from value high end high (value b))
