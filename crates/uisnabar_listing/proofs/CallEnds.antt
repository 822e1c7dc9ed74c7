-- What a call on listings told is what it owes; and that reading has one outcome.
-- Assumes nothing.
use Prim.Native.Nat.{ℕ}
use mathlib.Core.Bool.{false}
use mathlib.Core.List.{List}
use mathlib.Core.Path.{◌≡◌, refl, sym, ap, ◌∙◌}
use Rattle.answer.specs.Answers.{Buffer}
use Rattle.text_patterns.specs.Pattern.{parse}
use Rattle.reply.specs.Reply.{verdict_of}
use Rattle.listing_spec.specs.Writing.{listed, listed_in}
use Rattle.listing_spec.specs.Reading.{Sense, assembled, assembled_in, Assembles}
use Rattle.listing_spec.specs.Writing.{Transcribed}
use Rattle.listing_line.specs.Line.{listing_lines}
use Rattle.listing_law.proofs.Senses.{sense_of, means, means_one}
use Rattle.reply.specs.Told.{told_fits, told_returned, told_number, told_answer, told_buffer}
use Rattle.reply.proofs.Telling.{Told, untold, kept}
use Rattle.uisnabar_listing.specs.ListCall.{list_returned, list_text_left, list_written_left, list_answer_left}
use Rattle.uisnabar_listing.specs.ReadListingCall.{ReadListingCall}

-- a call that lists
module _ (program text written answer : List ℕ) where
  abbrev ListsBy : ℕ → List ℕ → List ℕ → List ℕ → Type 0
  ListsBy r textAfter writtenAfter answerAfter =
      (r ≡ list_returned program text written answer)
      × ((textAfter ≡ list_text_left program text written answer)
      × ((writtenAfter ≡ list_written_left program text written answer) × (answerAfter ≡ list_answer_left program text written answer)))

  pub lists_by : {r : ℕ} {textAfter writtenAfter answerAfter : List ℕ} (t : Transcribed) (after : List ℕ) → t ≡ listed program text → after ≡ listed_in program text
      → textAfter ≡ told_buffer written answer after text
      → Told written answer t.answer t.written r writtenAfter answerAfter
      → ListsBy r textAfter writtenAfter answerAfter
  unfolding list_returned list_text_left list_written_left list_answer_left
  lists_by t after is was text-left told = (
    told.0 ∙ ap (λ (t : Transcribed). told_returned written answer t.answer) is,
    (
      text-left ∙ ap (λ (x : List ℕ). told_buffer written answer x text) was,
      (
        told.1.0 ∙ ap (λ (t : Transcribed). told_number written answer t.written) is,
        told.1.1 ∙ ap (λ (t : Transcribed). told_answer written answer t.answer) is,
      ),
    ),
  )

-- a call that reads
module _ (text program written answer : List ℕ) where
  pub reads_by : {r : ℕ} {program_after writtenAfter answerAfter : List ℕ} (t : Transcribed) (after : List ℕ) → Assembles text program t after
      → program_after ≡ told_buffer written answer after program
      → Told written answer t.answer t.written r writtenAfter answerAfter
      → ReadListingCall text program written answer program_after writtenAfter answerAfter r
  reads_by t after a program-left told = record {
    sense = a.sense;
    means = a.means;
    verdict = told.0 ∙ ap (λ (t : Transcribed). told_returned written answer t.answer) a.returned;
    program_left = program-left ∙ ap (λ (x : List ℕ). told_buffer written answer x program) a.left;
    written_left = told.1.0 ∙ ap (λ (t : Transcribed). told_number written answer t.written) a.returned;
    answer_left = told.1.1 ∙ ap (λ (t : Transcribed). told_answer written answer t.answer) a.returned;
  }

  -- nothing is read for a caller who cannot be told, and yet the text means something
  pub unread : {r : ℕ} → told_fits written answer ≡ false → r ≡ verdict_of Buffer → ReadListingCall text program written answer program written answer r
  unread {r} e is =
      let s = sense_of text (parse listing_lines text) in
      reads_by (assembled s program) (assembled_in s program) (record { sense = s; means = means text; returned = refl; left = refl })
      (kept written answer (assembled_in s program) program e)
      (untold written answer (assembled s program).answer (assembled s program).written r e is)

-- one text, one outcome
pub read_call_determined : {text program written answer p₁ w₁ a₁ p₂ w₂ a₂ : List ℕ} {r s : ℕ}
    → ReadListingCall text program written answer p₁ w₁ a₁ r
    → ReadListingCall text program written answer p₂ w₂ a₂ s
    → (r ≡ s) × (p₁ ≡ p₂) × (w₁ ≡ w₂) × (a₁ ≡ a₂)
read_call_determined {text} {program} {written} {answer} x y =
    let e = means_one text x.sense y.sense x.means y.means in
    let same = ap (λ (s : Sense). assembled s program) e in (
      x.verdict ∙ ap (λ (t : Transcribed). told_returned written answer t.answer) same ∙ sym y.verdict,
      x.program_left ∙ ap (λ (s : Sense). told_buffer written answer (assembled_in s program) program) e ∙ sym y.program_left,
      x.written_left ∙ ap (λ (t : Transcribed). told_number written answer t.written) same ∙ sym y.written_left,
      x.answer_left ∙ ap (λ (t : Transcribed). told_answer written answer t.answer) same ∙ sym y.answer_left,
    )
