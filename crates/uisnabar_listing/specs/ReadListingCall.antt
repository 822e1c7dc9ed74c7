-- Document 02, M-105, for C: a call that reads a listing, and every byte it leaves, given what the text is.
use Rattle.std.specs.Prelude.{ℕ, List, ◌≡◌}
use Rattle.listing_spec.specs.Reading.{Sense, Means, assembled, assembled_in}
use Rattle.reply.specs.Told.{told_returned, told_number, told_answer, told_buffer}

pub record ReadListingCall (text program written answer program_after writtenAfter answerAfter : List ℕ) (returned : ℕ) : Type 0 where
  pub sense : Sense
  pub means : Means text sense
  pub verdict : returned ≡ told_returned written answer (assembled sense program).answer
  pub program_left : program_after ≡ told_buffer written answer (assembled_in sense program) program
  -- the bytes written, 0 on refusal
  pub written_left : writtenAfter ≡ told_number written answer (assembled sense program).written
  pub answer_left : answerAfter ≡ told_answer written answer (assembled sense program).answer
