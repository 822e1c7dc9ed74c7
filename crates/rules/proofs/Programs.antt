-- Instructions that are written are a program of so many, whose words are theirs; and so are those that are read.
-- Assumes nothing.
use mathlib.Core.Path.{◌≡◌, subst}
use mathlib.Core.Bool.{true}
use mathlib.Core.List.{List}
use Prim.Native.Nat.{ℕ, zero, suc, ◌+◌, ◌*◌, ◌/◌, ◌%◌, ◌^◌, ◌≤◌, ◌<◌}
use native.Mathlib.Omega.{arith}
use lib.Dec.{lit<}
use lib.ListN.{length, get_or}
use borrow.Author.Tests.{eq-eqb, le-leb}
use Rattle.word.specs.Word.{p, IsWord}
use Rattle.word.proofs.Below.{AllBelow, each_below}
use Rattle.form.specs.Instruction.{instruction_at, instruction_words}
use Rattle.form.specs.declared.Instruction.{Instruction}
use Rattle.rows.proofs.RowLaws.{Below, words_at}
use Rattle.rules.specs.Sizes.{program_fits}
use Rattle.rules.specs.Satisfies.{Words}
use Rattle.form_bytes.proofs.ReadBack.{written, written_length, word_read}
use Rattle.form_bytes.proofs.Rewritten.{its_twelve}

module _ (part : ℕ → Instruction) (n : ℕ) where
  pub written_count : length (written part n) / 48 ≡ n
  written_count = omega (arith, written_length part n)

  pub written_fits : 1 ≤ n → n ≤ 2 ^ 20 → program_fits (length (written part n)) ≡ true
  written_fits least most =
      rw (written_count, eq-eqb (length (written part n) % 48) 0 (omega (arith, written_length part n)), le-leb 1 n least, le-leb n (2 ^ 20) most)

  pub written_words : ((k : ℕ) → k < n → (j : ℕ) → IsWord (get_or (instruction_words (part k)) j 0)) → Words (written part n)
  written_words words k h =
      let e : 4 * k ≡ 48 * (k / 12) + 4 * (k % 12) = omega arith in
      let inside : k / 12 < n = omega (arith, h, written_length part n) in
      rw (e, word_read part n (k / 12) inside (λ j. omega (arith, words (k / 12) inside j)) (k % 12) (omega arith)) (words (k / 12) inside (k % 12))

module _ (s : List ℕ) (words : Words s) where
  all_words : (n at : ℕ) → at % 4 ≡ 0 → at + 4 * n ≤ length s → AllBelow p (words_at s at n)
  all_words zero at whole h = lit< tt
  all_words (suc n) at whole h =
      let e : 4 * (at / 4) ≡ at = omega arith in
      (rw e at (words (at / 4) (omega arith)), all_words n (at + 4) (omega arith) (omega arith))

  pub read_words : (k : ℕ) → 48 * k + 48 ≤ length s → (j : ℕ) → IsWord (get_or (instruction_words (instruction_at s (48 * k))) j 0)
  read_words k h = subst (Below p) (its_twelve s (48 * k)) (each_below (words_at s (48 * k) 12) (all_words 12 (48 * k) (omega arith) h))
