-- Document 02, M-105, the reader: LISTING with the first byte that no valid listing could have there, or the text's
-- end; then SHORT with the bytes needed. Nothing here says how a reader goes.
use Rattle.std.specs.Prelude.{ℕ, List, [], ◌≡◌, length}
use Rattle.answer.specs.Answers.{Answer, Listing}
use Rattle.text_patterns.specs.Place.{Place}
use Rattle.listing_spec.specs.Listing.{listing_of}
use Rattle.listing_spec.specs.Program.{WellFormedProgram}
use Rattle.listing_spec.specs.Writing.{Transcribed, within, transcribed, transcribed_in}

-- a text is valid if it is the listing of a well-formed program
abbrev pub ValidListing : List ℕ → Type 0
ValidListing text = (program : List ℕ) × WellFormedProgram program × (listing_of program ≡ text)

-- what a text is: a program's listing, or none, with the place where it leaves all of them
pub data Sense : Type 0 where
  Lists : List ℕ → Sense
  LeavesAt : ℕ → Sense

abbrev pub Means : List ℕ → Sense → Type 0
Means text (Lists program) = WellFormedProgram program × (listing_of program ≡ text)
Means text (LeavesAt place) = (ValidListing text → ⊥) × Place ValidListing text place

-- the answer, given what the text is and the room for a program
abbrev pub read_answer : Sense → ℕ → Answer
read_answer (Lists program) room = within (length program) room
read_answer (LeavesAt place) room = Listing place

-- the program's bytes; none where there is no program
abbrev pub bytes_read : Sense → List ℕ
bytes_read (Lists program) = program
bytes_read (LeavesAt place) = []

abbrev pub assembled : Sense → List ℕ → Transcribed
assembled sense buffer = transcribed (read_answer sense (length buffer)) (bytes_read sense)

abbrev pub assembled_in : Sense → List ℕ → List ℕ
assembled_in sense buffer = transcribed_in (read_answer sense (length buffer)) (bytes_read sense) buffer

-- the reader's promise: of the text, the buffer as it was, what is returned, and the buffer at return
pub record Assembles (text buffer : List ℕ) (r : Transcribed) (after : List ℕ) : Type 0 where
  pub sense : Sense
  pub means : Means text sense
  pub returned : r ≡ assembled sense buffer
  pub left : after ≡ assembled_in sense buffer
