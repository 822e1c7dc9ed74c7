-- What is read from what is made: its program is written as programs are, and each cell; how long both are.
-- Assumes nothing.
use mathlib.Core.Path.{◌≡◌, refl, ap, ◌∙◌}
use mathlib.Core.List.{List}
use Prim.Native.Nat.{ℕ, ◌*◌, ◌<◌}
use native.Mathlib.Nat.{add-zero}
use native.Mathlib.Omega.{arith}
use lib.Dec.{lit<}
use lib.ListN.{length}
use Rattle.word.specs.Word.{IsWord}
use Rattle.word.specs.Bytes.{word_at, bytes_of, concatenated}
use Rattle.word.proofs.FourBytes.{read_bytes}
use Rattle.word.proofs.Concatenated.{word_in, parts_length, parts_same}
use Rattle.rows.specs.Rows.{bytes_of_words}
use Rattle.form_bytes.proofs.ReadBack.{written, written_length}
use Rattle.maker_draws.specs.Drawn.{Draws}
use Rattle.maker_spec.specs.Made.{Drawable, Profile, instruction_made, cell_of}
use Rattle.maker_spec.specs.Bytes.{word_bytes, instructions_of, cells_of}
use Rattle.maker_law.proofs.WellFormed.{cell_word}

-- four bytes for each word
pub words_length : (words : List ℕ) → length (word_bytes words) ≡ 4 * length words
words_length words = parts_length _ 4 (λ k. refl) (length words)

-- word k of words
word_of : (w : ℕ → ℕ) (n k : ℕ) → k < n → IsWord (w k) → word_at (concatenated (λ j. bytes_of (w j)) n) (4 * k) ≡ w k
word_of w n k h small =
    (rw (add-zero (4 * k)) at (word_in (λ j. bytes_of (w j)) 4 (λ j. refl) n k 0 h (lit< tt))) ∙ read_bytes (w k) (omega arith)

module _ (profile : Profile) (d : Draws) (n : ℕ) where
  pub as_written : (k : ℕ) → instructions_of profile d n k ≡ written (instruction_made profile d n) k
  unfolding concatenated bytes_of_words
  as_written k = parts_same _ _ k (λ i h. refl)

  pub program_length : (k : ℕ) → length (instructions_of profile d n k) ≡ 48 * k
  program_length k = ap length (as_written k) ∙ written_length (instruction_made profile d n) k

  pub cells_length : (k : ℕ) → length (cells_of profile d n k) ≡ 4 * k
  cells_length k = parts_length _ 4 (λ j. refl) k

  module _ (is : Drawable d) (size k : ℕ) (h : k < size) where
    pub cell_read : word_at (cells_of profile d n size) (4 * k) ≡ cell_of profile d n k
    cell_read = word_of (cell_of profile d n) size k h (cell_word profile d is n k)

    pub memory_word : IsWord (word_at (cells_of profile d n size) (4 * k))
    memory_word = rw cell_read (cell_word profile d is n k)
