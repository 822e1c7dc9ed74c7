-- Document 02's C calls: a number of 64 bits is 8 bytes, little-endian, so two words of which the lower comes first.
use Rattle.std.specs.Prelude.{ℕ, ◌+◌, ◌*◌, ◌/◌, ◌%◌, ◌^◌, List, ◌++◌}
use Rattle.word.specs.Bytes.{word_at, bytes_of}

-- the number at a byte of a buffer; a byte past the buffer's end counts as 0
abbrev pub long_at : List ℕ → ℕ → ℕ
long_at s at = word_at s at + 2 ^ 32 * word_at s (at + 4)

-- the eight bytes of a number
abbrev pub long_bytes : ℕ → List ℕ
long_bytes x = bytes_of (x % 2 ^ 32) ++ bytes_of (x / 2 ^ 32)
