-- Document 01, "Draws, recipe, label": a number in decimal, and a line of a name and such a number; document 02, M-105:
-- such a number that another byte ends.
use Rattle.std.specs.Prelude.{ℕ, zero, suc, ◌+◌, ◌/◌, ◌%◌, cond, List, [], ◌∷◌, ◌++◌, ltb, length, take, drop}

abbrev pub digit : ℕ → ℕ
digit d = 48 + d

-- a number of at most k digits in decimal, with no leading zero
unfoldable pub decimal_in : ℕ → ℕ → List ℕ
decimal_in zero x = []
decimal_in (suc k) x = cond (ltb x 10) (digit x ∷ []) (decimal_in k (x / 10) ++ (digit (x % 10) ∷ []))

-- a 64-bit number has at most 20
abbrev pub decimal : ℕ → List ℕ
decimal x = decimal_in 20 x

-- a line ends in LF
abbrev pub line : List ℕ → List ℕ
line w = w ++ (10 ∷ [])

-- a name, a number and the byte that ends it
abbrev pub numbered : List ℕ → ℕ → ℕ → List ℕ
numbered name number end = name ++ (decimal number ++ (end ∷ []))

abbrev pub line_of : List ℕ → ℕ → List ℕ
line_of name number = numbered name number 10

-- inner: a buffer with other bytes from a byte on
abbrev pub over : List ℕ → ℕ → List ℕ → List ℕ
over out at bytes = take at out ++ bytes ++ drop (at + length bytes) out
