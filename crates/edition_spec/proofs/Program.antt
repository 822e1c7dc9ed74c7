-- Of an accepted program: its instructions are known, its translation is read back, and judge and tabler take it.
-- Assumes nothing.
use mathlib.Core.Path.{◌≡◌}
use mathlib.Core.List.{List}
use Prim.Native.Nat.{ℕ, ◌+◌, ◌*◌, ◌/◌, ◌^◌, ◌<◌}
use native.Mathlib.Omega.{arith}
use lib.Dec.{T, eqb, lit<}
use lib.ListN.{length, get_or}
use Rattle.word.specs.Word.{p, IsWord}
use Rattle.word.specs.Bytes.{word_at}
use Rattle.word.proofs.Below.{AllBelow, each_below}
use Rattle.word.proofs.Tests.{by_test, from_true}
use Rattle.form.specs.Instruction.{instruction_at, instruction_words}
use Rattle.form.specs.declared.Instruction.{Instruction}
use Rattle.form_bytes.proofs.ReadBack.{written_length, instruction_read}
use Rattle.rules.proofs.Programs.{written_count, written_fits, written_words}
use Rattle.rules.specs.Sizes.{program_fits}
use Rattle.rules.specs.Satisfies.{Words}
use Rattle.edition_machine.specs.Encoding.{encoded_at}
use Rattle.edition_machine.specs.declared.Encoded.{Encoded}
use Rattle.edition_spec.specs.Translation.{translated}
use Rattle.edition_spec.specs.Translated.{old_instruction, old_count, translated_program}
use Rattle.edition_spec.specs.Told.{Translates}
use Rattle.edition_spec.proofs.Known.{Known, known}
use Rattle.edition_spec.proofs.Telling.{translatable_exactly}

-- the words of a translation are below p: operands that were, and flags
translated_words : (e : Encoded) → Known e → IsWord e.a → IsWord e.b → IsWord e.c → AllBelow p (instruction_words (translated e))
unfolding translated
translated_words e k a b c =
    by_test Below (eqb e.deref 1)
    (λ d. by_test Below (eqb e.aux1 1) (λ _. omega (arith, a, b, c, k.small)) (λ _. omega (arith, a, c)))
    (λ d. by_test Below (eqb e.fc 1) (λ _. omega (arith, a, b, k.small)) (λ _. omega (arith, a, b, c, k.small)))
  where
    Below : Instruction → Type 0
    Below i = AllBelow p (instruction_words i)

module _ (old : List ℕ) (room : ℕ) (t : Translates old room) where
  pub known_at : (i : ℕ) → i < old_count old → Known (old_instruction old i)
  known_at i h = known _ ((translatable_exactly _).1 (t.each i h))

  -- word j of instruction i is a word
  word_at_lem : (i j at : ℕ) → i < old_count old → j < 14 → at ≡ 56 * i + 4 * j → IsWord (word_at old at)
  word_at_lem i j at h b e =
      let f : at ≡ 4 * (14 * i + j) = omega (arith, e) in
      rw f (t.words (14 * i + j) (omega (arith, h, b, t.fit.whole)))

  words_at_lem : (i : ℕ) → i < old_count old → (j : ℕ) → IsWord (get_or (instruction_words (translated (old_instruction old i))) j 0)
  unfolding encoded_at
  words_at_lem i h =
      each_below (instruction_words (translated (old_instruction old i)))
      (translated_words (old_instruction old i) (known_at i h) (word_at_lem i 0 _ h (lit< tt) (omega arith)) (word_at_lem i 1 _ h (lit< tt) (omega arith)) (word_at_lem i 2 _ h (lit< tt) (omega arith)))

  abbrev part : ℕ → Instruction
  part i = translated (old_instruction old i)

  small_at : (i : ℕ) → i < old_count old → (j : ℕ) → get_or (instruction_words (part i)) j 0 < 2 ^ 32
  small_at i h j = omega (arith, words_at_lem i h j)

  pub read_back : (i : ℕ) → i < old_count old → instruction_at (translated_program old) (48 * i) ≡ translated (old_instruction old i)
  read_back i h = instruction_read part (old_count old) i h (small_at i h)

  pub long : length (translated_program old) ≡ 48 * old_count old
  long = written_length part (old_count old)

  pub count_is : length (translated_program old) / 48 ≡ old_count old
  count_is = written_count part (old_count old)

  pub fits_program : T (program_fits (length (translated_program old)))
  fits_program = from_true (program_fits (length (translated_program old))) (written_fits part (old_count old) t.fit.least t.fit.most)

  pub program_words : Words (translated_program old)
  program_words = written_words part (old_count old) words_at_lem
