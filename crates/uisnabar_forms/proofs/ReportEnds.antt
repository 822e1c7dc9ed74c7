-- The two ends of a call that reports: a buffer of another length, and an answer.
-- Assumes nothing.
use mathlib.Core.Path.{◌≡◌, ap, ◌∙◌}
use mathlib.Core.Bool.{true, false}
use mathlib.Core.List.{List, [], ◌∷◌}
use Prim.Native.Nat.{ℕ}
use lib.Dec.{eqb}
use lib.ListN.{length}
use borrow.Author.Tests.{eqb-true}
use Rattle.word.proofs.Tests.{each}
use Rattle.answer.specs.Answers.{Answer, Buffer}
use Rattle.long.specs.Long.{long_bytes}
use Rattle.reply.specs.Reply.{answer_bytes, verdict_of, replied}
use Rattle.grid_spec.specs.Report.{report_answer, report_length, reported_in}
use Rattle.grid_bytes.specs.GridBytes.{grid_of}
use Rattle.uisnabar_forms.specs.ReportCall.{report_fits, report_returned, report_text_left, report_written_left, report_answer_left}

module _ (grid text written answer : List ℕ) where
  -- what a call owes, as its promise nests it
  abbrev pub Reports : ℕ → List ℕ → List ℕ → List ℕ → Type 0
  Reports r textAfter writtenAfter answerAfter =
      (r ≡ report_returned grid text written answer)
      × ((textAfter ≡ report_text_left grid text written answer)
      × ((writtenAfter ≡ report_written_left grid text written answer) × (answerAfter ≡ report_answer_left grid text written answer)))

  pub unfit_call : report_fits grid text written answer ≡ false → (r : ℕ) → r ≡ verdict_of Buffer → Reports r text written answer
  unfolding report_returned report_text_left report_written_left report_answer_left
  unfit_call e r told = (rw e told, (rw e, (rw e, rw e)))

  module _ (e : report_fits grid text written answer ≡ true) where
    lengths : (eqb (length grid) 1080 ≡ true) × (eqb (length written) 8 ≡ true) × (eqb (length answer) answer_bytes ≡ true)
    lengths =
        let t = each (eqb (length grid) 1080) (eqb (length written) 8 ∷ eqb (length answer) answer_bytes ∷ []) e in
        (t.0, t.1.0, t.1.1)

    pub grid_whole : length grid ≡ 1080
    grid_whole = eqb-true (length grid) 1080 lengths.0

    pub told_wholes : (length written ≡ 8) × (length answer ≡ answer_bytes)
    told_wholes = (eqb-true (length written) 8 lengths.1, eqb-true (length answer) answer_bytes lengths.2)

    pub told_call : (a : Answer) (x : ℕ) (textAfter writtenAfter answerAfter : List ℕ) (r : ℕ) → a ≡ report_answer (grid_of grid) (length text)
        → x ≡ report_length (grid_of grid) (length text)
        → textAfter ≡ reported_in (grid_of grid) text
        → (r ≡ verdict_of a) × (writtenAfter ≡ long_bytes x) × (answerAfter ≡ replied a answer)
        → Reports r textAfter writtenAfter answerAfter
    unfolding report_returned report_text_left report_written_left report_answer_left
    told_call a x textAfter writtenAfter answerAfter r said long printed told =
        (rw e (rw said at told.0), (rw e printed, (rw e (told.1 ∙ ap long_bytes long), rw e (rw said at told.2))))
