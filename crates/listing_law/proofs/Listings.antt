-- The theorem on listings: document 02's sentences, one by one.
-- Assumes nothing.
use Prim.Native.Nat.{ℕ, ◌≤◌, ◌<◌}
use mathlib.Core.Bool.{true, false, true≢false}
use mathlib.Core.List.{List, ◌++◌}
use mathlib.Core.Logic.{◌↔◌}
use mathlib.Core.Path.{◌≡◌, refl, sym, ap, subst, ◌∙◌}
use native.Mathlib.Omega.{arith}
use lib.Dec.{leb}
use lib.ListN.{length, take, drop, get_or}
use lib.Seq.{take_at}
use borrow.Author.Tests.{le-leb, lt-leb, leb-true, leb-false}
use Rattle.word.proofs.Tests.{cases}
use Rattle.answer.specs.Verdicts.{accepted}
use Rattle.answer.specs.Answers.{Answer, Accepted, Listing, Short}
use Rattle.text_patterns.specs.Place.{Place}
use Rattle.text_patterns.specs.Pattern.{parse}
use Rattle.listing_spec.specs.Listing.{listing_of}
use Rattle.listing_spec.specs.Program.{WellFormedProgram}
use Rattle.listing_spec.specs.Writing.{within, list_answer, transcribed, transcribed_in, listed, listed_in}
use Rattle.listing_spec.specs.Reading.{ValidListing, Sense, Lists, LeavesAt, Means, read_answer, bytes_read, assembled, assembled_in, Assembles}
use Rattle.listing_spec.specs.Writing.{Transcribed}
use Rattle.listing_law.proofs.ProgramTests.{passes, passed, tests_first}
use Rattle.listing_line.specs.Line.{listing_lines}
use Rattle.listing_law.specs.Listings.{Listings}
use Rattle.listing_law.proofs.Senses.{sense_of, means, one_program, means_one}
use Rattle.listing_law.proofs.Length.{listing_most}

-- room, or not
roomy : (needed room : ℕ) → within needed room ≡ Accepted → needed ≤ room
roomy needed room e =
    cases (leb needed room) (λ t. leb-true needed room t)
    (λ t. absurd (true≢false (sym (ap accepted (rw t at e)))))

-- what no answer but ACCEPTED writes
module _ (a : Answer) (bytes buffer : List ℕ) (not : accepted a ≡ false) where
  kept : ((transcribed a bytes).written ≡ 0) × (transcribed_in a bytes buffer ≡ buffer)
  kept = (rw not, rw not)

module _ (program : List ℕ) (w : WellFormedProgram program) where
  behind_tests : (room : ℕ) → list_answer program room ≡ within (length (listing_of program)) room
  unfolding list_answer
  behind_tests room = passes program w (within (length (listing_of program)) room)

  room_enough : (room : ℕ) → length (listing_of program) ≤ room → list_answer program room ≡ Accepted
  room_enough room h = behind_tests room ∙ rw (le-leb (length (listing_of program)) room h)

writer : (program : List ℕ) (room : ℕ) → ((k : ℕ) → get_or program k 0 < 256)
    → (list_answer program room ≡ Accepted) ↔ (WellFormedProgram program × (length (listing_of program) ≤ room))
unfolding list_answer
writer program room bytes = (exactly, λ h. room_enough program h.0 room h.1)
  where
    exactly : list_answer program room ≡ Accepted → WellFormedProgram program × (length (listing_of program) ≤ room)
    exactly e =
        let p = passed program bytes (within (length (listing_of program)) room) e in
        (p.0, roomy (length (listing_of program)) room p.1)

-- what a text of a known sense leaves
module _ (text buffer : List ℕ) (r : Transcribed) (after : List ℕ) (a : Assembles text buffer r after) where
  keeps : accepted r.answer ≡ false → (r.written ≡ 0) × (after ≡ buffer)
  keeps e =
      let said : r.answer ≡ read_answer a.sense (length buffer) = ap (λ (t : Transcribed). t.answer) a.returned in
      let none = kept (read_answer a.sense (length buffer)) (bytes_read a.sense) buffer (rw (← said) e) in
      (ap (λ (t : Transcribed). t.written) a.returned ∙ none.0, a.left ∙ none.1)

  as_sense : (s : Sense) → Means text s → (r ≡ assembled s buffer) × (after ≡ assembled_in s buffer)
  as_sense s m =
      let e = means_one text a.sense s a.means m in
      (a.returned ∙ ap (λ (x : Sense). assembled x buffer) e, a.left ∙ ap (λ (x : Sense). assembled_in x buffer) e)

-- what an answer of the reader tells of the text's sense
module _ (needed room : ℕ) where
  not_listing : (place : ℕ) → within needed room ≡ Listing place → ⊥
  not_listing place e =
      cases (leb needed room) (λ t. let y : Accepted ≡ Listing place = rw t at e in let z : ◌≡◌ {A = ℕ} 0 1 = cc in omega arith)
      (λ t. let y : Short needed ≡ Listing place = rw t at e in let z : ◌≡◌ {A = ℕ} 0 1 = cc in omega arith)

  is_short : (k : ℕ) → within needed room ≡ Short k → (needed ≡ k) × (room < k)
  is_short k e =
      cases (leb needed room) (λ t. let y : Accepted ≡ Short k = rw t at e in let z : ◌≡◌ {A = ℕ} 0 1 = cc in absurd (omega arith))
      (λ t. let y : Short needed ≡ Short k = rw t at e in let z : needed ≡ k = cc in (z, omega (arith, z, leb-false needed room t)))

placed : (text : List ℕ) (s : Sense) (room place : ℕ) → Means text s → read_answer s room ≡ Listing place → (ValidListing text → ⊥) × Place ValidListing text place
placed text (Lists program) room place m e = absurd (not_listing (length program) room place e)
placed text (LeavesAt k) room place m e =
    let z : k ≡ place = cc in
    (m.0, subst (Place ValidListing text) z m.1)

shortened : (text : List ℕ) (s : Sense) (room needed : ℕ) → Means text s → read_answer s room ≡ Short needed
    → (program : List ℕ) × WellFormedProgram program × (listing_of program ≡ text) × (length program ≡ needed) × (room < needed)
shortened text (Lists program) room needed m e = let k = is_short (length program) room needed e in (program, m.0, m.1, k.0, k.1)
shortened text (LeavesAt k) room needed m e = let z : ◌≡◌ {A = ℕ} 0 1 = cc in absurd (omega arith)

taken : (text : List ℕ) (s : Sense) (buffer : List ℕ) → Means text s → read_answer s (length buffer) ≡ Accepted
    → WellFormedProgram (take (assembled s buffer).written (assembled_in s buffer)) × (listing_of (take (assembled s buffer).written (assembled_in s buffer)) ≡ text)
taken text (Lists program) buffer m e =
    let room = roomy (length program) (length buffer) e in
    let is : take (assembled (Lists program) buffer).written (assembled_in (Lists program) buffer) ≡ program =
    rw (le-leb (length program) (length buffer) room) (take_at program (drop (length program) buffer) (length program) refl) in
    (subst WellFormedProgram (sym is) m.0, ap listing_of is ∙ m.1)
taken text (LeavesAt k) buffer m e = let z : ◌≡◌ {A = ℕ} 0 1 = cc in absurd (omega arith)

module _ (program buffer : List ℕ) (r : Transcribed) (after : List ℕ) (w : WellFormedProgram program) (room : length program ≤ length buffer) where
  again : Assembles (listing_of program) buffer r after → (r ≡ record { answer = Accepted; written = length program }) × (after ≡ program ++ drop (length program) buffer)
  again a =
      let s = as_sense (listing_of program) buffer r after a (Lists program) (w, refl) in
      let enough = le-leb (length program) (length buffer) room in
      (s.0 ∙ rw enough, s.1 ∙ rw enough)

-- the bytes that the writer wrote
wrote : (program text : List ℕ) → WellFormedProgram program → length (listing_of program) ≤ length text
    → take (listed program text).written (listed_in program text) ≡ listing_of program
wrote program text w fits =
    rw (room_enough program w (length text) fits)
    (take_at (listing_of program) (drop (length (listing_of program)) text) (length (listing_of program)) refl)

-- the reader's answer is its sense's
module _ {text buffer : List ℕ} {r : Transcribed} {after : List ℕ} (a : Assembles text buffer r after) where
  said : r.answer ≡ read_answer a.sense (length buffer)
  said = ap (λ (t : Transcribed). t.answer) a.returned

  read_whole : r.answer ≡ Accepted → WellFormedProgram (take r.written after) × (listing_of (take r.written after) ≡ text)
  read_whole e = rw (a.returned, a.left) (taken text a.sense buffer a.means (sym said ∙ e))

pub listings : Listings
unfolding list_answer
listings = record {
  reads_back = again;
  no_other_text = λ text buffer r after a e. read_whole a e;
  two_listings = one_program;
  round_trip = λ program text buffer r after w fits room a.
      again program buffer r after w room (subst (λ (t : List ℕ). Assembles t buffer r after) (wrote program text w fits) a);
  some_sense = λ text. (sense_of text (parse listing_lines text), means text);
  one_sense = means_one;
  writer_accepts = writer;
  writer_tests = λ program room e. tests_first program (within (length (listing_of program)) room) e;
  writer_short = λ program room w h. behind_tests program w room ∙ rw (lt-leb (length (listing_of program)) room h);
  needed_most = listing_most;
  reader_place = λ text buffer r after place a e. placed text a.sense (length buffer) place a.means (sym (said a) ∙ e);
  reader_short = λ text buffer r after needed a e. shortened text a.sense (length buffer) needed a.means (sym (said a) ∙ e);
  writer_keeps = λ program text e. kept (list_answer program (length text)) (listing_of program) text e;
  reader_keeps = keeps;
}
