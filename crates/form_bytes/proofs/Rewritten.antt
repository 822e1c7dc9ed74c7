-- A program whose instructions are read and written again is the same bytes.
-- Assumes nothing.
use mathlib.Core.Path.{◌≡◌, refl}
use mathlib.Core.List.{List, ◌++◌, append_assoc, append-nil}
use Prim.Native.Nat.{ℕ, zero, suc, ◌+◌, ◌*◌, ◌≤◌}
use native.Mathlib.Nat.{add_assoc}
use native.Mathlib.Omega.{arith}
use lib.ListN.{length, drop, drop_of_length-le}
use Rattle.word.specs.Bytes.{concatenated}
use Rattle.form.specs.Instruction.{instruction_at, instruction_words}
use Rattle.form.specs.declared.Instruction.{Instruction}
use Rattle.rows.specs.Rows.{bytes_of_words}
use Rattle.rows.proofs.RowLaws.{Below, words_at, words_drop}
use Rattle.form_bytes.proofs.ReadBack.{written}

-- the 12 words from a byte on
pub its_twelve : (s : List ℕ) (at : ℕ) → words_at s at 12 ≡ instruction_words (instruction_at s at)
unfolding instruction_at
its_twelve s at = simp add_assoc

module _ (s : List ℕ) (b : Below 256 s) where
  one_back : (at : ℕ) → at + 48 ≤ length s → bytes_of_words (instruction_words (instruction_at s at)) ++ drop (at + 48) s ≡ drop at s
  one_back at h = rw (← its_twelve s at) (words_drop s b 12 at h)

  abbrev part : ℕ → Instruction
  part k = instruction_at s (48 * k)

  -- the first n of them, and what is left
  first_back : (n : ℕ) → 48 * n ≤ length s → written part n ++ drop (48 * n) s ≡ s
  unfolding concatenated
  first_back zero h = refl
  first_back (suc n) h =
      let e : 48 * suc n ≡ 48 * n + 48 = omega arith in
      rw (e, append_assoc (written part n) (bytes_of_words (instruction_words (part n))) (drop (48 * n + 48) s), one_back (48 * n) (omega arith))
      (first_back n (omega arith))

  pub rewritten : (n : ℕ) → 48 * n ≡ length s → written (λ k. instruction_at s (48 * k)) n ≡ s
  rewritten n e = rw (drop_of_length-le s {i = 48 * n} (omega arith), append-nil (written part n)) at (first_back n (omega arith))
