-- The reader's three answers, each with the buffer at return.
-- Assumes nothing.
use Prim.Native.Nat.{ℕ, ◌-◌, ◌*◌, ◌^◌, ◌≤◌, ◌<◌}
use mathlib.Core.List.{List, [], ◌∷◌, ◌++◌}
use mathlib.Core.Path.{◌≡◌, refl, sym, ap, subst, ◌∙◌}
use native.Mathlib.Omega.{arith}
use borrow.Author.Tests.{le-leb, lt-leb}
use lib.ListN.{length, drop}
use Rattle.answer.specs.Answers.{Accepted, Listing, Short}
use Rattle.form.specs.declared.Form.{Form}
use Rattle.text_patterns.specs.Pattern.{Parsed, got, left, parse}
use Rattle.text_fields.proofs.Standing.{place_left}
use Rattle.listing_spec.specs.Reading.{Sense, Lists, LeavesAt, Means, Assembles}
use Rattle.listing_spec.specs.Writing.{Transcribed}
use Rattle.listing_forms.specs.Forms.{program_of}
use Rattle.listing_forms.proofs.Programs.{program_long}
use Rattle.listing_line.specs.Line.{listing_lines}
use Rattle.listing_law.proofs.Senses.{sense_of, means}
use Rattle.listing_law.proofs.Length.{place_fits}
use Rattle.listing_reader.specs.Walk.{End, whole, cut, end_from, ending, filled_by, Wholly}
use Rattle.listing_reader.proofs.Filling.{its_forms}

-- an end as what it means
abbrev meaning : List ℕ → End → Sense
meaning text (whole fs) = Lists (program_of fs)
meaning text (cut rest) = LeavesAt (length text - length rest)

same_meaning : (text : List ℕ) (p : Parsed (List Form)) → sense_of text p ≡ meaning text (end_from p)
same_meaning text (got fs []) = refl
same_meaning text (got fs (b ∷ rest)) = refl
same_meaning text (left rest) = refl

ends_mean : (text : List ℕ) (e : End) → ending text ≡ e → Means text (meaning text e)
ends_mean text e is = subst (λ (x : End). Means text (meaning text x)) is (subst (Means text) (same_meaning text (parse listing_lines text)) (means text))

module _ (text buffer : List ℕ) where
  module _ (at : ℕ) (inside : at ≤ length text) (is : ending text ≡ cut (drop at text)) where
    means_leaves : Means text (LeavesAt at)
    means_leaves = subst (λ (k : ℕ). Means text (LeavesAt k)) (sym (place_left text at inside)) (ends_mean text (cut (drop at text)) is)

    pub at_fits : at < 2 ^ 32
    at_fits = place_fits means_leaves.1

    pub no_listing : {r : Transcribed} → r ≡ record { answer = Listing at; written = 0 } → Assembles text buffer r buffer
    no_listing is-r = record { sense = LeavesAt at; means = means_leaves; returned = is-r; left = refl }

  module _ (lines : ℕ) (w : Wholly text lines) where
    abbrev program : List ℕ
    program = program_of w.forms

    long : length program ≡ 48 * lines
    long = program_long w.forms ∙ ap (λ (n : ℕ). 48 * n) w.many

    pub lines_most : lines ≤ 2 ^ 20
    lines_most = omega (arith, (its_forms text w.forms w.ends).1, w.many)

    means_lists : Means text (Lists program)
    means_lists = ends_mean text (whole w.forms) w.ends

    pub too_short : {r : Transcribed} → length buffer < 48 * lines → r ≡ record { answer = Short (48 * lines); written = 0 } → Assembles text buffer r buffer
    too_short h is-r =
        let short = lt-leb (length program) (length buffer) (omega (arith, long)) in
        record { sense = Lists program; means = means_lists; returned = is-r ∙ rw (short, long); left = rw short }

    pub assembles : {r : Transcribed} {after : List ℕ} → 48 * lines ≤ length buffer → r ≡ record { answer = Accepted; written = 48 * lines }
        → after ≡ filled_by (ending text) buffer → Assembles text buffer r after
    assembles h is-r is-after =
        let room = le-leb (length program) (length buffer) (omega (arith, long)) in
        record {
          sense = Lists program;
          means = means_lists;
          returned = is-r ∙ rw (room, long);
          left =
              is-after ∙ ap (λ (e : End). filled_by e buffer) w.ends
              ∙ rw room (ap (λ (n : ℕ). program ++ drop n buffer) (sym (program_long w.forms)));
        }
