-- A text is the listing of one program, or leaves all listings at one place; the lines' pattern tells which.
-- Assumes nothing.
use Prim.Native.Nat.{ℕ, ◌-◌, ◌^◌, ◌≤◌}
use mathlib.Core.List.{List, [], ◌∷◌}
use mathlib.Core.Logic.{◌↔◌}
use mathlib.Core.Path.{◌≡◌, sym, ap, subst, ◌∙◌}
use native.Mathlib.Omega.{arith}
use lib.ListN.{length}
use Rattle.std.specs.Prelude.{Result, Ok, Err}
use Rattle.answer.specs.declared.Refusal.{Refusal}
use Rattle.form.specs.declared.Form.{Form}
use Rattle.text_patterns.specs.Place.{Place}
use Rattle.text_patterns.specs.Pattern.{Each, flat, Spells, Parsed, got, left, parse}
use Rattle.text_patterns.proofs.Law.{unique, same_place}
use Rattle.text_patterns.proofs.Patterns.{Valid, spells_one}
use Rattle.text_patterns.proofs.Parsing.{ParseOwed, parse_owed}
use Rattle.listing_spec.specs.Listing.{form_line, listing_of}
use Rattle.listing_spec.specs.Program.{WellFormedProgram}
use Rattle.listing_spec.specs.Reading.{ValidListing, Sense, Lists, LeavesAt, Means, assembled, assembled_in, Assembles}
use Rattle.listing_spec.specs.Writing.{Transcribed, transcribed_by}
use Rattle.listing_forms.specs.Forms.{Listable, program_of}
use Rattle.listing_forms.proofs.Programs.{well_formed_lem, its_listing, of_forms}
use Rattle.listing_line.specs.Line.{listing_lines}
use Rattle.listing_line.proofs.Listable.{spelling_listing}

-- 1 to 2^20 forms that can be listed
abbrev pub Forms : List Form → Type 0
Forms fs = (1 ≤ length fs) × (length fs ≤ 2 ^ 20) × Each Listable fs

-- the listings of programs are the lines of such forms
pub valid_forms : (text : List ℕ) → Valid Forms (flat form_line) text ↔ ValidListing text
valid_forms text = (
  λ v. let (some, most, each) = v.1 in (program_of v.0, well_formed_lem v.0 some most each, its_listing v.0 each ∙ v.2),
  λ v. let (fs, some, most, each, is) = of_forms v.0 v.1 in
      (fs, (some, most, each), sym (its_listing fs each) ∙ ap listing_of is ∙ v.2),
)

-- what is read, as what it means
abbrev pub sense_of : List ℕ → Parsed (List Form) → Sense
sense_of text (got fs []) = Lists (program_of fs)
sense_of text (got fs (b ∷ rest)) = LeavesAt (length text - length (b ∷ rest))
sense_of text (left rest) = LeavesAt (length text - length rest)

module _ (text : List ℕ) where
  leaves : (k : ℕ) → (Valid Forms (flat form_line) text → ⊥) × Place (Valid Forms (flat form_line)) text k → Means text (LeavesAt k)
  leaves k h = (λ v. h.0 ((valid_forms text).1 v), same_place valid_forms h.1)

  owed_means : (p : Parsed (List Form)) → ParseOwed Forms (flat form_line) text p → Means text (sense_of text p)
  owed_means (got fs []) h = let (some, most, each) = h.0 in (well_formed_lem fs some most each, its_listing fs each ∙ h.1)
  owed_means (got fs (b ∷ rest)) h = leaves (length text - length (b ∷ rest)) h
  owed_means (left rest) h = leaves (length text - length rest) h

  pub means : Means text (sense_of text (parse listing_lines text))
  means = owed_means (parse listing_lines text) (parse_owed spelling_listing text)

  -- the forms of a text that is all read
  pub read_forms : (fs : List Form) → parse listing_lines text ≡ got fs [] → Forms fs
  read_forms fs e = (subst (ParseOwed Forms (flat form_line) text) e (parse_owed spelling_listing text)).0

-- two programs have two listings
pub one_program : (P Q : List ℕ) → WellFormedProgram P → WellFormedProgram Q → listing_of P ≡ listing_of Q → P ≡ Q
one_program P Q p q e =
    let (fs, some, most, each, is) = of_forms P p in
    let (gs, some', most', each', is') = of_forms Q q in
    let same : flat form_line gs ≡ flat form_line fs =
    sym (its_listing gs each') ∙ ap listing_of is' ∙ sym e ∙ ap listing_of (sym is) ∙ its_listing fs each in
    let other : Spells listing_lines (flat form_line fs) gs =
    subst (λ (t : List ℕ). Spells listing_lines t gs) same (spelling_listing.complete gs (some', most', each')) in
    sym is ∙ ap program_of (spells_one (flat form_line fs) listing_lines fs gs (spelling_listing.complete fs (some, most, each)) other) ∙ is'

-- a text means one thing
pub means_one : (text : List ℕ) (s t : Sense) → Means text s → Means text t → s ≡ t
means_one text (Lists P) (Lists Q) m n = ap Lists (one_program P Q m.0 n.0 (m.1 ∙ sym n.1))
means_one text (Lists P) (LeavesAt k) m n = absurd (n.0 (P, m.0, m.1))
means_one text (LeavesAt k) (Lists Q) m n = absurd (m.0 (Q, n.0, n.1))
means_one text (LeavesAt j) (LeavesAt k) m n = ap LeavesAt (unique j k m.1 n.1)

-- so the reader's promise admits one answer and one buffer
pub assembles_one : (text buffer : List ℕ) (r s : Transcribed) (after later : List ℕ) → Assembles text buffer r after → Assembles text buffer s later
    → (r ≡ s) × (after ≡ later)
assembles_one text buffer r s after later a b =
    let e = means_one text a.sense b.sense a.means b.means in (
      a.returned ∙ ap (λ (x : Sense). assembled x buffer) e ∙ sym b.returned,
      a.left ∙ ap (λ (x : Sense). assembled_in x buffer) e ∙ sym b.left,
    )

-- what was written is of one result
pub one_transcribed : (z w : Result ℕ Refusal) → transcribed_by z ≡ transcribed_by w → z ≡ w
one_transcribed (Ok x) (Ok y) e = ap Ok (ap (λ (t : Transcribed). t.written) e)
one_transcribed (Ok x) (Err u) e = let z : ◌≡◌ {A = ℕ} 0 1 = cc (ap (λ (t : Transcribed). t.answer) e) in absurd (omega arith)
one_transcribed (Err r) (Ok y) e = let z : ◌≡◌ {A = ℕ} 0 1 = cc (ap (λ (t : Transcribed). t.answer) e) in absurd (omega arith)
one_transcribed (Err r) (Err u) e = let same : r ≡ u = cc (ap (λ (t : Transcribed). t.answer) e) in ap Err same

-- so the promise admits one result and one buffer
pub assembles_result : (text buffer : List ℕ) (z w : Result ℕ Refusal) (after later : List ℕ)
    → Assembles text buffer (transcribed_by z) after
    → Assembles text buffer (transcribed_by w) later
    → (z ≡ w) × (after ≡ later)
assembles_result text buffer z w after later a b =
    let e = assembles_one text buffer (transcribed_by z) (transcribed_by w) after later a b in
    (one_transcribed z w e.0, e.1)
