-- Document 02, M-105: "Every well-formed program has one listing, the listing reads back as it, and no other text does.
-- Refusals: 16 LISTING, place = first byte that no valid listing could have there, or the text's end; 17 SHORT, place =
-- bytes needed, output unchanged. SIZE, WORD, INSTRUCTION come before both, as they apply."
-- `listing_of` is a program's listing, byte for byte; `listed` and `listed_in` are what `listing_writer::list`
-- promises, and `Assembles` what `listing_reader::read_listing` does, over what a text means (listing_spec).
use Rattle.std.specs.Prelude.{ℕ, ◌*◌, ◌/◌, ◌≤◌, ◌<◌, false, List, ◌++◌, ◌↔◌, ◌≡◌, length, take, drop, get_or}
use Rattle.answer.specs.Verdicts.{accepted}
use Rattle.answer.specs.Answers.{Accepted, Listing, Short}
use Rattle.text_patterns.specs.Place.{Place}
use Rattle.listing_spec.specs.Listing.{listing_of}
use Rattle.listing_spec.specs.Program.{program_tests, WellFormedProgram}
use Rattle.listing_spec.specs.Writing.{list_answer, listed, listed_in}
use Rattle.listing_spec.specs.Reading.{ValidListing, Sense, Means, Assembles}
use Rattle.listing_spec.specs.Writing.{Transcribed}

pub record Listings : Type 0 where
  -- a program's listing reads back as it, word for word, and the bytes after it stay
  pub reads_back : (program buffer : List ℕ) (r : Transcribed) (after : List ℕ) → WellFormedProgram program → length program ≤ length buffer
      → Assembles (listing_of program) buffer r after
      → (r ≡ record { answer = Accepted; written = length program }) × (after ≡ program ++ drop (length program) buffer)
  -- no other text does: what is read of a text is a program whose listing it is
  pub no_other_text : (text buffer : List ℕ) (r : Transcribed) (after : List ℕ) → Assembles text buffer r after → r.answer ≡ Accepted
      → WellFormedProgram (take r.written after) × (listing_of (take r.written after) ≡ text)
  -- two programs have two listings
  pub two_listings : (p q : List ℕ) → WellFormedProgram p → WellFormedProgram q → listing_of p ≡ listing_of q → p ≡ q
  -- what the writer wrote is read as the program
  pub round_trip : (program text buffer : List ℕ) (r : Transcribed) (after : List ℕ) → WellFormedProgram program
      → length (listing_of program) ≤ length text → length program ≤ length buffer
      → Assembles (take (listed program text).written (listed_in program text)) buffer r after
      → (r ≡ record { answer = Accepted; written = length program }) × (after ≡ program ++ drop (length program) buffer)
  -- every text means something, and one thing
  pub some_sense : (text : List ℕ) → (s : Sense) × Means text s
  pub one_sense : (text : List ℕ) (s t : Sense) → Means text s → Means text t → s ≡ t
  -- the writer accepts the well-formed programs for whose listing there is room, and no other bytes
  pub writer_accepts : (program : List ℕ) (room : ℕ) → ((k : ℕ) → get_or program k 0 < 256)
      → (list_answer program room ≡ Accepted) ↔ (WellFormedProgram program × (length (listing_of program) ≤ room))
  -- SIZE, WORD and INSTRUCTION come first; then SHORT, with the bytes needed: no more than 77 for each instruction
  pub writer_tests : (program : List ℕ) (room : ℕ) → accepted (program_tests program Accepted) ≡ false → list_answer program room ≡ program_tests program Accepted
  pub writer_short : (program : List ℕ) (room : ℕ) → WellFormedProgram program → room < length (listing_of program)
      → list_answer program room ≡ Short (length (listing_of program))
  pub needed_most : (program : List ℕ) → WellFormedProgram program → length (listing_of program) ≤ 77 * (length program / 48)
  -- LISTING's place is the longest prefix that the text shares with any valid listing
  pub reader_place : (text buffer : List ℕ) (r : Transcribed) (after : List ℕ) (place : ℕ) → Assembles text buffer r after → r.answer ≡ Listing place
      → (ValidListing text → ⊥) × Place ValidListing text place
  -- and SHORT is of a listing alone, with the bytes of its program
  pub reader_short : (text buffer : List ℕ) (r : Transcribed) (after : List ℕ) (needed : ℕ) → Assembles text buffer r after → r.answer ≡ Short needed
      → (program : List ℕ) × WellFormedProgram program × (listing_of program ≡ text) × (length program ≡ needed) × (length buffer < needed)
  -- a refusal of either writes nothing
  pub writer_keeps : (program text : List ℕ) → accepted (list_answer program (length text)) ≡ false
      → ((listed program text).written ≡ 0) × (listed_in program text ≡ text)
  pub reader_keeps : (text buffer : List ℕ) (r : Transcribed) (after : List ℕ) → Assembles text buffer r after → accepted r.answer ≡ false
      → (r.written ≡ 0) × (after ≡ buffer)
