-- A row at a byte is the first row of what is left from there.
-- Assumes nothing.
use mathlib.Core.Path.{◌≡◌, refl, ap, ◌∙◌}
use mathlib.Core.List.{List, ◌++◌}
use Prim.Native.Nat.{ℕ, ◌+◌}
use native.Mathlib.Nat.{add_assoc}
use lib.ListN.{length, get_or, drop}
use lib.Seq.{drop-append_seam}
use Rattle.word.proofs.Lists.{◌∷≡◌}
use Rattle.word.proofs.Part.{word_later, word_drop, first_word}
use Rattle.word.specs.Bytes.{word_at}
use Rattle.rows.specs.Rows.{exec_at, five_at, ext_at}

-- a row made of its words
module _ (s : List ℕ) (at : ℕ) where
  pub exec_made : {w0 w1 w2 w3 w4 w5 w6 w7 : ℕ}
      → w0 ≡ word_at s at
      → w1 ≡ word_at s (at + 4)
      → w2 ≡ word_at s (at + 8)
      → w3 ≡ word_at s (at + 12)
      → w4 ≡ word_at s (at + 16)
      → w5 ≡ word_at s (at + 20)
      → w6 ≡ word_at s (at + 24)
      → w7 ≡ word_at s (at + 28)
      → record { pc = w0; fp = w1; addrA = w2; addrB = w3; addrC = w4; valueA = w5; valueB = w6; valueC = w7 } ≡ exec_at s at
  unfolding exec_at
  exec_made e0 e1 e2 e3 e4 e5 e6 e7 i =
      record { pc = e0 i; fp = e1 i; addrA = e2 i; addrB = e3 i; addrC = e4 i; valueA = e5 i; valueB = e6 i; valueC = e7 i }

  pub ext_made : {w0 w1 w2 w3 w4 w5 w6 w7 w8 w9 : ℕ} {a0 a1 a2 a3 : List ℕ}
      → w0 ≡ word_at s at
      → w1 ≡ word_at s (at + 4)
      → w2 ≡ word_at s (at + 8)
      → w3 ≡ word_at s (at + 12)
      → w4 ≡ word_at s (at + 16)
      → w5 ≡ word_at s (at + 20)
      → w6 ≡ word_at s (at + 24)
      → w7 ≡ word_at s (at + 28)
      → w8 ≡ word_at s (at + 32)
      → w9 ≡ word_at s (at + 36)
      → a0 ≡ five_at s (at + 40)
      → a1 ≡ five_at s (at + 60)
      → a2 ≡ five_at s (at + 80)
      → a3 ≡ five_at s (at + 100)
      → record { start = w0; add = w1; mul = w2; peq = w3; len = w4; idxA = w5; idxB = w6; idxR = w7; be = w8; base = w9; vA = a0; vB = a1; comp = a2; res = a3 } ≡ ext_at s at
  unfolding ext_at
  ext_made e0 e1 e2 e3 e4 e5 e6 e7 e8 e9 f0 f1 f2 f3 i =
      record { start = e0 i; add = e1 i; mul = e2 i; peq = e3 i; len = e4 i; idxA = e5 i; idxB = e6 i; idxR = e7 i; be = e8 i; base = e9 i; vA = f0 i; vB = f1 i; comp = f2 i; res = f3 i }

module _ (s : List ℕ) (at : ℕ) where
  five_drop : (k : ℕ) → five_at s (at + k) ≡ five_at (drop at s) k
  unfolding five_at
  five_drop k = word_drop s at k ∷≡ next 4 ∷≡ next 8 ∷≡ next 12 ∷≡ next 16 ∷≡ refl
    where
      next : (n : ℕ) → word_at s (at + k + n) ≡ word_at (drop at s) (k + n)
      next n = ap (word_at s) (add_assoc at k n) ∙ word_drop s at (k + n)

  exec_drop : exec_at s at ≡ exec_at (drop at s) 0
  unfolding exec_at
  exec_drop =
      exec_made (drop at s) 0 (first_word s at) (word_drop s at 4) (word_drop s at 8) (word_drop s at 12) (word_drop s at 16) (word_drop s at 20) (word_drop s at 24) (word_drop s at 28)

  ext_drop : ext_at s at ≡ ext_at (drop at s) 0
  unfolding ext_at
  ext_drop =
      ext_made (drop at s) 0 (first_word s at) (word_drop s at 4) (word_drop s at 8) (word_drop s at 12) (word_drop s at 16) (word_drop s at 20) (word_drop s at 24) (word_drop s at 28) (word_drop s at 32) (word_drop s at 36) (five_drop 40) (five_drop 60) (five_drop 80) (five_drop 100)

-- the same of five words each: the ten words before the elements are two fives
module _ (s : List ℕ) (at : ℕ) where
  pub ext_of_fives : {f g a0 a1 a2 a3 : List ℕ}
      → f ≡ five_at s at
      → g ≡ five_at s (at + 20)
      → a0 ≡ five_at s (at + 40)
      → a1 ≡ five_at s (at + 60)
      → a2 ≡ five_at s (at + 80)
      → a3 ≡ five_at s (at + 100)
      → record { start = get_or f 0 0; add = get_or f 1 0; mul = get_or f 2 0; peq = get_or f 3 0; len = get_or f 4 0; idxA = get_or g 0 0; idxB = get_or g 1 0; idxR = get_or g 2 0; be = get_or g 3 0; base = get_or g 4 0; vA = a0; vB = a1; comp = a2; res = a3 } ≡ ext_at s at
  unfolding five_at ext_at
  ext_of_fives ef eg e0 e1 e2 e3 =
      ext_made s at (nth ef 0) (nth ef 1) (nth ef 2) (nth ef 3) (nth ef 4) (nth eg 0) (nth eg 1 ∙ word_later s at 20 4 24 refl) (nth eg 2 ∙ word_later s at 20 8 28 refl) (nth eg 3 ∙ word_later s at 20 12 32 refl) (nth eg 4 ∙ word_later s at 20 16 36 refl) e0 e1 e2 e3
    where
      nth : {x y : List ℕ} → x ≡ y → (k : ℕ) → get_or x k 0 ≡ get_or y k 0
      nth e k = ap (λ (z : List ℕ). get_or z k 0) e

-- behind other bytes
pub exec_behind : (front s : List ℕ) → exec_at (front ++ s) (length front) ≡ exec_at s 0
exec_behind front s = exec_drop _ _ ∙ ap (λ (t : List ℕ). exec_at t 0) (drop-append_seam front s)

pub ext_behind : (front s : List ℕ) → ext_at (front ++ s) (length front) ≡ ext_at s 0
ext_behind front s = ext_drop _ _ ∙ ap (λ (t : List ℕ). ext_at t 0) (drop-append_seam front s)
