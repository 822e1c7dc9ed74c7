-- Document 02, M-100, for C: 135 counters of 8 bytes, little-endian, in grid order.
use Rattle.std.specs.Prelude.{ℕ, ◌*◌, List, [], ◌∷◌, get_or}
use Rattle.word.specs.Bytes.{concatenated}
use Rattle.long.specs.Long.{long_at, long_bytes}

-- the grid in 1,080 bytes
unfoldable pub grid_of : List ℕ → List ℕ
grid_of bytes = concatenated (λ k. long_at bytes (8 * k) ∷ []) 135

-- the 1,080 bytes of a grid
unfoldable pub grid_bytes : List ℕ → List ℕ
grid_bytes grid = concatenated (λ k. long_bytes (get_or grid k 0)) 135
