-- What a call that finds range checks told is what it owes.
-- Assumes nothing.
use Prim.Native.Nat.{ℕ}
use mathlib.Core.List.{List}
use mathlib.Core.Path.{◌≡◌, ap, ◌∙◌}
use lib.ListN.{length}
use Rattle.answer.specs.Answers.{Answer}
use Rattle.rules.specs.Sizes.{Parts}
use Rattle.reply.specs.Told.{told_returned, told_number, told_answer, told_buffer}
use Rattle.reply.proofs.Telling.{Told}
use Rattle.range_spec.specs.Finder.{ranges_answer, ranges_found, finds_left}
use Rattle.uisnabar_range.specs.RangesCall.{ranges_returned, ranges_finds_left, ranges_found_left, ranges_answer_left}

module _ (q : Parts) (finds found answer : List ℕ) where
  abbrev FindsBy : ℕ → List ℕ → List ℕ → List ℕ → Type 0
  FindsBy r findsAfter foundAfter answerAfter =
      (r ≡ ranges_returned q finds found answer)
      × ((findsAfter ≡ ranges_finds_left q finds found answer)
      × ((foundAfter ≡ ranges_found_left q finds found answer) × (answerAfter ≡ ranges_answer_left q finds found answer)))

  pub finds_by : {r : ℕ} {findsAfter foundAfter answerAfter : List ℕ} (a : Answer) (n : ℕ) (after : List ℕ) → a ≡ ranges_answer q (length finds)
      → n ≡ ranges_found q (length finds)
      → after ≡ finds_left q finds
      → findsAfter ≡ told_buffer found answer after finds
      → Told found answer a n r foundAfter answerAfter
      → FindsBy r findsAfter foundAfter answerAfter
  unfolding ranges_returned ranges_finds_left ranges_found_left ranges_answer_left
  finds_by a n after answered counted was finds-left told = (
    told.0 ∙ ap (told_returned found answer) answered,
    (
      finds-left ∙ ap (λ (x : List ℕ). told_buffer found answer x finds) was,
      (told.1.0 ∙ ap (told_number found answer) counted, told.1.1 ∙ ap (told_answer found answer) answered),
    ),
  )
