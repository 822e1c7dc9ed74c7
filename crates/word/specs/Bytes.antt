-- Document 01, "Words and elements": a word is 4 bytes, little-endian.
use Rattle.std.specs.Prelude.{ℕ, zero, suc, ◌+◌, ◌*◌, ◌/◌, ◌%◌, cond, List, [], ◌∷◌, ◌++◌, length, get_or, take, drop, leb}

-- the word at a byte of a buffer; a byte past the buffer's end counts as 0
abbrev pub word_at : List ℕ → ℕ → ℕ
word_at s at = get_or s at 0 + 256 * get_or s (at + 1) 0 + 65536 * get_or s (at + 2) 0 + 16777216 * get_or s (at + 3) 0

-- the four bytes of a number, lowest first
abbrev pub bytes_of : ℕ → List ℕ
bytes_of x = x % 256 ∷ x / 256 % 256 ∷ x / 65536 % 256 ∷ x / 16777216 % 256 ∷ []

-- the buffer with the four bytes of x from a byte on; unchanged where they don't fit
unfoldable pub with_word : List ℕ → ℕ → ℕ → List ℕ
with_word s at x = cond (leb (at + 4) (length s)) (take at s ++ bytes_of x ++ drop (at + 4) s) s

-- the first n parts of a buffer, rows or words, one after the other
unfoldable pub concatenated : (ℕ → List ℕ) → ℕ → List ℕ
concatenated part zero = []
concatenated part (suc n) = concatenated part n ++ part n
