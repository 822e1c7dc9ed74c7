-- The translation's four answers, each with the output at return, and what the lengths that fit tell.
-- Assumes nothing.
use mathlib.Core.Path.{◌≡◌, refl, ap, ◌∙◌}
use mathlib.Core.Bool.{true, false, cond}
use mathlib.Core.List.{List}
use Prim.Native.Nat.{ℕ, ◌*◌, ◌/◌, ◌^◌, ◌≤◌, ◌<◌}
use native.Mathlib.Omega.{arith}
use lib.ListN.{length}
use borrow.Author.Tests.{lt-ltb, le-ltb}
use Rattle.answer.specs.Verdicts.{accepted}
use Rattle.answer.specs.Answers.{Answer, Accepted, Size, Word, Edition}
use Rattle.judge_spec.specs.Judged.{first_word}
use Rattle.edition_spec.specs.Told.{Lengths}
use Rattle.edition_spec.proofs.Telling.{lengths_exactly}
use Rattle.edition_spec.specs.Translated.{old_count, lengths_fit, first_untranslatable, translate_answer, translated_program, program_left}

module _ (old program : List ℕ) where
  -- an answer and the output are what the promise says
  abbrev Kept : Answer → List ℕ → Type 0
  Kept a after = (a ≡ translate_answer old (length program)) × (after ≡ program_left old program)

  kept : {a : Answer} {after : List ℕ} → a ≡ translate_answer old (length program) → after ≡ cond (accepted a) (translated_program old) program → Kept a after
  unfolding program_left
  kept said left = (said, left ∙ ap (λ (a : Answer). cond (accepted a) (translated_program old) program) said)

  pub unfit : lengths_fit (length old) (length program) ≡ false → Kept (Size 1 0) program
  unfolding translate_answer
  unfit h = kept (rw h) refl

  module _ (fit : lengths_fit (length old) (length program) ≡ true) where
    lengths : Lengths (length old) (length program)
    lengths = (lengths_exactly (length old) (length program)).0 fit

    -- so each place fits in 32 bits
    pub old_high : length old ≤ 56 * 2 ^ 20
    old_high = omega (arith, lengths.whole, lengths.most)

    pub program_length : length program ≡ 48 * old_count old
    program_length = lengths.output

    module _ (word : ℕ) (first : word ≡ first_word old) where
      pub word_above : word < length old / 4 → Kept (Word 1 word) program
      unfolding translate_answer
      word_above h = kept (rw (fit, ← first, lt-ltb word (length old / 4) h)) refl

      module _ (below : length old / 4 ≤ word) (at : ℕ) (found : at ≡ first_untranslatable old) where
        pub untranslatable : at < old_count old → Kept (Edition at) program
        unfolding translate_answer
        untranslatable h = kept (rw (fit, ← first, le-ltb word (length old / 4) below, ← found, lt-ltb at (old_count old) h)) refl

        pub all_translated : old_count old ≤ at → {after : List ℕ} → after ≡ translated_program old → Kept Accepted after
        unfolding translate_answer
        all_translated h = kept (rw (fit, ← first, le-ltb word (length old / 4) below, ← found, le-ltb at (old_count old) h))
