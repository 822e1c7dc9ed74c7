-- The output filled from its front, an instruction at a time, each through its own 48 bytes.
-- Assumes nothing.
use mathlib.Core.Path.{◌≡◌, sym, ap, ap₂, ◌∙◌}
use mathlib.Core.List.{List, ◌++◌, append_assoc}
use Prim.Native.Nat.{ℕ, ◌+◌, ◌-◌, ◌*◌, ◌≤◌}
use native.Mathlib.Omega.{arith}
use lib.ListN.{length, take, drop, length-append}
use lib.Seq.{take_at, take_all, length-take-le}
use Rattle.word.specs.Bytes.{concatenated}
use Rattle.word.proofs.Concatenated.{parts_one, lent_length}
use Rattle.rows.specs.Rows.{bytes_of_words, put_row}
use Rattle.rows.proofs.Writing.{length_bytes}

module _ (t x words : List ℕ) (i : ℕ) (wide : length words ≡ 12) (room : 48 * (i + 1) ≤ length t)
    (put : x ≡ put_row (take (48 * i + 48 - 48 * i) (drop (48 * i) t)) 48 words) where
  bytes : x ≡ bytes_of_words words
  unfolding put_row
  bytes = put ∙ rw (lent_length t (48 * i) 48 (omega arith))

  sized : length x ≡ 48
  sized = ap length bytes ∙ length_bytes words ∙ rw wide

  before : length (take (48 * i) t) ≡ 48 * i
  before = length-take-le (48 * i) t (omega arith)

  -- the buffer once the 48 bytes have come back
  abbrev filled : List ℕ
  filled = take (48 * i) t ++ (x ++ drop (48 * i + 48 - 48 * i) (drop (48 * i) t))

  pub one_more : (part : ℕ → List ℕ) → bytes_of_words words ≡ part i → take (48 * i) t ≡ concatenated part i → take (48 * (i + 1)) filled ≡ concatenated part (i + 1)
  one_more part e stood =
      ap (take (48 * (i + 1))) (sym (append_assoc (take (48 * i) t) x _))
      ∙ take_at (take (48 * i) t ++ x) _ (48 * (i + 1)) (omega (arith, length-append (take (48 * i) t) x, before, sized))
      ∙ ap₂ ◌++◌ stood (bytes ∙ e)
      ∙ sym (parts_one part i)

pub all_filled : (part : ℕ → List ℕ) (t : List ℕ) (n i : ℕ) → length t ≡ 48 * n → i ≤ n → n ≤ i → take (48 * i) t ≡ concatenated part i → t ≡ concatenated part n
all_filled part t n i l low high stood =
    let e : i ≡ n = omega arith in
    sym (take_all (48 * n) t (omega arith)) ∙ (rw e at stood)
