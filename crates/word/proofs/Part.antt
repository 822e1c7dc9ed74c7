-- A word behind another, a word of what is left of a buffer, and a word behind some bytes.
-- Assumes nothing.
use mathlib.Core.Path.{◌≡◌, ◌∙◌, ap}
use mathlib.Core.List.{List, ◌++◌}
use Prim.Native.Nat.{ℕ, ◌+◌}
use native.Mathlib.Nat.{add-zero, add_assoc}
use lib.ListN.{length, drop}
use lib.Seq.{get_or-drop, get_or-append-add}
use Rattle.word.specs.Bytes.{word_at}

-- a word so far behind another is so far behind its start
pub word_later : (s : List ℕ) (at k n m : ℕ) → k + n ≡ m → word_at s (at + k + n) ≡ word_at s (at + m)
word_later s at k n m e = ap (word_at s) (add_assoc at k n ∙ ap (λ (j : ℕ). at + j) e)

-- of what is left from a byte on
pub word_drop : (s : List ℕ) (at k : ℕ) → word_at s (at + k) ≡ word_at (drop at s) k
word_drop s at k = simp (get_or-drop, add_assoc)

pub first_word : (s : List ℕ) (at : ℕ) → word_at s at ≡ word_at (drop at s) 0
first_word s at = rw (add-zero at) at (word_drop s at 0)

pub word_behind : (front s : List ℕ) (at : ℕ) → word_at (front ++ s) (length front + at) ≡ word_at s at
word_behind front s at = simp (add_assoc, get_or-append-add front s)
