-- Inner: what a byte is worth as a digit, and whether a number goes on with it.
use Rattle.std.specs.Prelude.{ℕ, zero, suc, ◌+◌, ◌-◌, ◌*◌, ◌<◌, ◌≤◌, ◌≡◌, Bool, true, cond, ◌&&◌, List, [], ◌∷◌, ltb, leb, eqb, get_or, Option, Some, None, MatchOption}

-- the value of a lower-case hex digit, 16 for any other byte
unfoldable pub hex_value : ℕ → ℕ
hex_value b = cond (ltb b 48) 16 (cond (ltb b 58) (b - 48) (cond (ltb b 97) 16 (cond (ltb b 103) (b - 87) 16)))

-- the value of a decimal digit, 10 for any other byte
unfoldable pub decimal_value : ℕ → ℕ
decimal_value b = cond (ltb b 48) 10 (cond (ltb b 58) (b - 48) 10)

-- a byte's number among some letters; how many there are where it is none of them
unfoldable pub index_in : List ℕ → ℕ → ℕ
index_in [] b = 0
index_in (x ∷ xs) b = cond (eqb x b) 0 (suc (index_in xs b))

-- a byte as a digit of a base: its value, or none
abbrev pub DigitOf : (ℕ → ℕ) → ℕ → ℕ → Option ℕ → Type 0
DigitOf value base b r = MatchOption r (base ≤ value b) (λ d. (d ≡ value b) × (d < base))

-- the digits of x and one more, in a number of at most high, where a byte may follow
unfoldable pub next_digit : ℕ → ℕ → ℕ → Option ℕ
next_digit x high b =
    cond (ltb (decimal_value b) 10)
    (cond (ltb 0 x) (cond (leb (10 * x + decimal_value b) high) (Some (10 * x + decimal_value b)) None) None) None

-- a test holds of every number below n
unfoldable pub every : (ℕ → Bool) → ℕ → Bool
every f zero = true
every f (suc n) = every f n && f n

-- byte k from a place on is a hex digit
abbrev pub hex_at : List ℕ → ℕ → ℕ → Bool
hex_at text at k = ltb (hex_value (get_or text (at + k) 0)) 16
