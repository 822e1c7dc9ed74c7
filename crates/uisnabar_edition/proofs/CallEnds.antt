-- The two ends of a call that translates: an answer buffer of another length, and an answer.
-- Assumes nothing.
use mathlib.Core.Path.{◌≡◌, ◌∙◌}
use mathlib.Core.List.{List}
use Prim.Native.Nat.{ℕ}
use lib.ListN.{length}
use borrow.Author.Tests.{eq-eqb, ne_eqb}
use Rattle.answer.specs.Answers.{Answer, Buffer}
use Rattle.reply.specs.Reply.{answer_bytes, returned, replied}
use Rattle.reply.proofs.Unfit.{same_returned, same_replied}
use Rattle.edition_spec.specs.Translated.{program_left}
use Rattle.uisnabar_edition.specs.TranslateCall.{translate_told, translate_returned, translate_program_left, translate_answer_left}

module _ (old program answer : List ℕ) where
  -- what a call owes, as its promise nests it
  abbrev pub Owes : ℕ → List ℕ → List ℕ → Type 0
  Owes r program_after answerAfter =
      (r ≡ translate_returned old program answer)
      × ((program_after ≡ translate_program_left old program answer) × (answerAfter ≡ translate_answer_left old program answer))

  pub unfit_call : (length answer ≡ answer_bytes → ⊥) → (r : ℕ) (answerAfter : List ℕ) → r ≡ returned Buffer answer → answerAfter ≡ replied Buffer answer
      → Owes r program answerAfter
  unfolding translate_program_left
  unfit_call other r answerAfter told written = (
    told ∙ same_returned answer other Buffer (translate_told old program answer),
    (rw (ne_eqb (length answer) answer_bytes other), written ∙ same_replied answer other Buffer (translate_told old program answer)),
  )

  pub told_call : length answer ≡ answer_bytes → (a : Answer) (r : ℕ) (program_after answerAfter : List ℕ) → a ≡ translate_told old program answer
      → program_after ≡ program_left old program
      → r ≡ returned a answer
      → answerAfter ≡ replied a answer
      → Owes r program_after answerAfter
  unfolding translate_program_left
  told_call whole a r program_after answerAfter said left told written =
      (rw said at told, (rw (eq-eqb (length answer) answer_bytes whole) left, rw said at written))
