-- An instruction read from a program's bytes is the one that was written.
-- Assumes nothing.
use mathlib.Core.Path.{◌≡◌, sym, ◌∙◌}
use mathlib.Core.List.{List, [], ◌∷◌, ◌++◌}
use Prim.Native.Nat.{ℕ, zero, suc, ◌+◌, ◌*◌, ◌^◌, ◌<◌}
use native.Mathlib.Nat.{add-zero}
use native.Mathlib.Omega.{arith}
use lib.Dec.{lit<}
use lib.ListN.{get_or, length}
use Rattle.word.specs.Bytes.{word_at, bytes_of, concatenated}
use Rattle.word.proofs.FourBytes.{read_bytes}
use Rattle.word.proofs.Part.{word_drop}
use Rattle.word.proofs.Concatenated.{parts_length, word_in}
use Rattle.form.specs.Instruction.{instruction_at, instruction_words}
use Rattle.form.specs.declared.Instruction.{Instruction}
use Rattle.form.proofs.Part.{instruction_made_lem}
use Rattle.rows.specs.Rows.{bytes_of_words}
use Rattle.rows.proofs.Writing.{length_bytes}

-- the bytes of n instructions
abbrev pub written : (ℕ → Instruction) → ℕ → List ℕ
written part n = concatenated (λ i. bytes_of_words (instruction_words (part i))) n

-- 48 bytes each
sized : (part : ℕ → Instruction) (i : ℕ) → length (bytes_of_words (instruction_words (part i))) ≡ 48
sized part i = length_bytes (instruction_words (part i))

pub written_length : (part : ℕ → Instruction) (n : ℕ) → length (written part n) ≡ 48 * n
written_length part = parts_length (λ i. bytes_of_words (instruction_words (part i))) 48 (sized part)

-- word j of some words
word_of : (ws : List ℕ) (j : ℕ) → j < length ws → get_or ws j 0 < 2 ^ 32 → word_at (bytes_of_words ws) (4 * j) ≡ get_or ws j 0
unfolding bytes_of_words
word_of [] j h f = absurd (omega arith)
word_of (w ∷ ws) zero h f = read_bytes w f
word_of (w ∷ ws) (suc j) h f =
    let e : 4 * suc j ≡ 4 + 4 * j = omega arith in
    rw (e, word_drop (bytes_of w ++ bytes_of_words ws) 4 (4 * j)) (word_of ws j (omega arith) f)

module _ (part : ℕ → Instruction) (n k : ℕ) (h : k < n) (small : (j : ℕ) → get_or (instruction_words (part k)) j 0 < 2 ^ 32) where
  pub word_read : (j : ℕ) → j < 12 → word_at (written part n) (48 * k + 4 * j) ≡ get_or (instruction_words (part k)) j 0
  word_read j b =
      word_in (λ i. bytes_of_words (instruction_words (part i))) 48 (sized part) n k (4 * j) h (omega arith)
      ∙ word_of (instruction_words (part k)) j b (small j)

  pub instruction_read : instruction_at (written part n) (48 * k) ≡ part k
  instruction_read =
      sym (instruction_made_lem (written part n) (48 * k)
      (rw (add-zero (48 * k)) at (sym (word_read 0 (lit< tt))))
      (sym (word_read 1 (lit< tt)))
      (sym (word_read 2 (lit< tt)))
      (sym (word_read 3 (lit< tt)))
      (sym (word_read 4 (lit< tt)))
      (sym (word_read 5 (lit< tt)))
      (sym (word_read 6 (lit< tt)))
      (sym (word_read 7 (lit< tt)))
      (sym (word_read 8 (lit< tt)))
      (sym (word_read 9 (lit< tt)))
      (sym (word_read 10 (lit< tt)))
      (sym (word_read 11 (lit< tt))))
