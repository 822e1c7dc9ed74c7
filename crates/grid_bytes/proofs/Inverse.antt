-- A grid that is written reads back, and zeros are a fresh grid.
-- Assumes nothing.
use mathlib.Core.Path.{◌≡◌, refl, sym, ap, ◌∙◌}
use mathlib.Core.List.{List}
use Prim.Native.Nat.{ℕ, ◌*◌, ◌^◌, ◌<◌}
use native.Mathlib.Nat.{add-zero}
use lib.Dec.{lit<}
use lib.ListN.{length, get_or, replicate}
use Rattle.word.specs.Bytes.{word_at, concatenated}
use Rattle.word.proofs.Concatenated.{parts_length, word_in}
use Rattle.long.specs.Long.{long_at, long_bytes}
use Rattle.long.proofs.EightBytes.{read_long}
use Rattle.grid_spec.specs.Grid.{fresh}
use Rattle.grid_spec.proofs.Listed.{is_listed}
use Rattle.grid_bytes.specs.GridBytes.{grid_of, grid_bytes}

abbrev part : List ℕ → ℕ → List ℕ
part grid k = long_bytes (get_or grid k 0)

pub grid_length : (grid : List ℕ) → length (grid_bytes grid) ≡ 1080
unfolding grid_bytes
grid_length grid = parts_length (part grid) 8 (λ k. refl) 135

-- counter k reads back
counter_back : (grid : List ℕ) (n k : ℕ) → k < n → get_or grid k 0 < 2 ^ 64 → long_at (concatenated (part grid) n) (8 * k) ≡ get_or grid k 0
counter_back grid n k h small =
    let low = word_in (part grid) 8 (λ j. refl) n k 0 h (lit< tt) in
    let high = word_in (part grid) 8 (λ j. refl) n k 4 h (lit< tt) in
    let first : word_at (concatenated (part grid) n) (8 * k) ≡ word_at (part grid k) 0 =
    ap (word_at (concatenated (part grid) n)) (sym (add-zero (8 * k))) ∙ low in
    rw (first, high) (read_long (get_or grid k 0) small)

pub reads_back : (grid : List ℕ) → length grid ≡ 135 → ((k : ℕ) → k < 135 → get_or grid k 0 < 2 ^ 64) → grid_of (grid_bytes grid) ≡ grid
unfolding grid_of grid_bytes
reads_back grid whole small =
    sym (is_listed (λ k. long_at (concatenated (part grid) 135) (8 * k)) grid 135 whole (λ k h. sym (counter_back grid 135 k h (small k h))))

-- a fresh grid is 1,080 zeros
pub fresh_bytes : grid_bytes fresh ≡ replicate 1080 0
unfolding grid_bytes concatenated
fresh_bytes = refl
