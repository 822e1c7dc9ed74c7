-- Document 02, M-105, the writer: SIZE, WORD and INSTRUCTION come before SHORT, whose place is the bytes needed.
-- Declared in src/: Refusal (answer).
use Rattle.std.specs.Prelude.{ℕ, Result, cond, List, ◌++◌, leb, length, drop}
use Rattle.answer.specs.Verdicts.{accepted}
use Rattle.answer.specs.declared.Refusal.{Refusal}
use Rattle.answer.specs.Answers.{Answer, Accepted, Short, answer_of, number_of}
use Rattle.listing_spec.specs.Listing.{listing_of}
use Rattle.listing_spec.specs.Program.{program_tests}

-- so many bytes are needed, in a buffer of so many
abbrev pub within : ℕ → ℕ → Answer
within needed room = cond (leb needed room) Accepted (Short needed)

-- the answer to a program and the room for its listing
unfoldable pub list_answer : List ℕ → ℕ → Answer
list_answer program room = program_tests program (within (length (listing_of program)) room)

-- what writing or reading a listing did: the bytes written, 0 where it was refused
pub record Transcribed : Type 0 where
  pub answer : Answer
  pub written : ℕ

-- of a call that gives the bytes written where it is accepted
abbrev pub transcribed_by : Result ℕ Refusal → Transcribed
transcribed_by r = record { answer = answer_of r; written = number_of r }

-- of some bytes those that are written: all of them, or none where the answer is a refusal
abbrev pub transcribed : Answer → List ℕ → Transcribed
transcribed a bytes = record { answer = a; written = cond (accepted a) (length bytes) 0 }

-- the buffer at return: the bytes and then what stood there; as it was on refusal
abbrev pub transcribed_in : Answer → List ℕ → List ℕ → List ℕ
transcribed_in a bytes buffer = cond (accepted a) (bytes ++ drop (length bytes) buffer) buffer

abbrev pub listed : List ℕ → List ℕ → Transcribed
listed program text = transcribed (list_answer program (length text)) (listing_of program)

abbrev pub listed_in : List ℕ → List ℕ → List ℕ
listed_in program text = transcribed_in (list_answer program (length text)) (listing_of program) text
