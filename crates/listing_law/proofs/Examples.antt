-- Lines and places byte for byte.
-- Assumes nothing.
use Prim.Native.Nat.{ℕ, ◌≤◌}
use mathlib.Core.Bool.{true}
use mathlib.Core.List.{List, [], ◌∷◌}
use mathlib.Core.Path.{◌≡◌, refl, sym, ap, subst, ◌∙◌}
use native.Mathlib.Omega.{arith}
use lib.ListN.{length, drop}
use Rattle.form.specs.declared.Op.TheVariants as op
use Rattle.form.specs.declared.Mode.{Mode}
use Rattle.form.specs.declared.Mode.TheVariants.{Immediate, Cell, Frame}
use Rattle.form.specs.declared.Operand.{Operand}
use Rattle.form.specs.declared.Kind.{Kind}
use Rattle.form.specs.declared.Kind.TheVariants.{Add, Extension}
use Rattle.form.specs.declared.Form.{Form}
use Rattle.lines.specs.Line.{decimal_in}
use Rattle.text_patterns.specs.Pattern.{lit, seq, left, parse}
use Rattle.text_patterns.specs.Fields.{one, number_from, number}
use Rattle.text_fields.specs.Digit.{decimal_value, index_in}
use Rattle.text_fields.proofs.Standing.{place_left}
use Rattle.listing_spec.specs.Listing.{form_line}
use Rattle.listing_spec.specs.Reading.{LeavesAt, Means}
use Rattle.listing_line.specs.Line.{op_tail, modes, from_call, from_c, from_b, from_a, line_fields, listing_lines}
use Rattle.listing_law.proofs.Senses.{sense_of, means}

abbrev of : Mode → ℕ → Operand
of mode word = record { mode = mode; word = word }

abbrev form : Kind → Operand → Operand → Operand → Form
form kind a b c = record { kind = kind; a = a; b = b; c = c }

-- op=add a=cell:0 b=imm:2130706432 c=fp:10
pub line_of_add : form_line (form Add (of Cell 0) (of Immediate 2130706432) (of Frame 10))
    ≡ 111 ∷ 112 ∷ 61 ∷ 97 ∷ 100 ∷ 100 ∷ 32 ∷ 97 ∷ 61 ∷ 99 ∷ 101 ∷ 108 ∷ 108 ∷ 58 ∷ 48 ∷ 32 ∷ 98 ∷ 61 ∷ 105 ∷ 109 ∷ 109 ∷ 58 ∷ 50 ∷ 49 ∷ 51 ∷ 48 ∷ 55 ∷ 48 ∷ 54 ∷ 52 ∷ 51 ∷ 50 ∷ 32 ∷ 99 ∷ 61 ∷ 102 ∷ 112 ∷ 58 ∷ 49 ∷ 48 ∷ 10 ∷ []
unfolding form_line decimal_in
line_of_add = refl

-- op=xpeq a=fp:1 b=fp:2 c=cell:3 be=1 n=1048576
pub line_of_xpeq : form_line (form (Extension op.Peq true 1048576) (of Frame 1) (of Frame 2) (of Cell 3))
    ≡ 111 ∷ 112 ∷ 61 ∷ 120 ∷ 112 ∷ 101 ∷ 113 ∷ 32 ∷ 97 ∷ 61 ∷ 102 ∷ 112 ∷ 58 ∷ 49 ∷ 32 ∷ 98 ∷ 61 ∷ 102 ∷ 112 ∷ 58 ∷ 50 ∷ 32 ∷ 99 ∷ 61 ∷ 99 ∷ 101 ∷ 108 ∷ 108 ∷ 58 ∷ 51 ∷ 32 ∷ 98 ∷ 101 ∷ 61 ∷ 49 ∷ 32 ∷ 110 ∷ 61 ∷ 49 ∷ 48 ∷ 52 ∷ 56 ∷ 53 ∷ 55 ∷ 54 ∷ 10 ∷ []
unfolding form_line decimal_in
line_of_xpeq = refl

leaves_at : (text : List ℕ) (k : ℕ) → k ≤ length text → parse listing_lines text ≡ left (drop k text) → Means text (LeavesAt k)
leaves_at text k h e = subst (Means text) (ap (sense_of text) e ∙ ap LeavesAt (sym (place_left text k h))) (means text)

-- a leading zero: nothing follows it
abbrev pub zero_leads : List ℕ
zero_leads = 111 ∷ 112 ∷ 61 ∷ 97 ∷ 100 ∷ 100 ∷ 32 ∷ 97 ∷ 61 ∷ 99 ∷ 101 ∷ 108 ∷ 108 ∷ 58 ∷ 48 ∷ 49 ∷ 32 ∷ 98 ∷ 61 ∷ 105 ∷ 109 ∷ 109 ∷ 58 ∷ 50 ∷ 32 ∷ 99 ∷ 61 ∷ 102 ∷ 112 ∷ 58 ∷ 51 ∷ 10 ∷ []

-- p: its last digit is the first that does not fit
abbrev pub word_p : List ℕ
word_p = 111 ∷ 112 ∷ 61 ∷ 109 ∷ 117 ∷ 108 ∷ 32 ∷ 97 ∷ 61 ∷ 105 ∷ 109 ∷ 109 ∷ 58 ∷ 50 ∷ 49 ∷ 51 ∷ 48 ∷ 55 ∷ 48 ∷ 54 ∷ 52 ∷ 51 ∷ 51 ∷ 32 ∷ 98 ∷ 61 ∷ 99 ∷ 101 ∷ 108 ∷ 108 ∷ 58 ∷ 48 ∷ 32 ∷ 99 ∷ 61 ∷ 99 ∷ 101 ∷ 108 ∷ 108 ∷ 58 ∷ 48 ∷ 10 ∷ []

-- n = 0
abbrev pub n_zero : List ℕ
n_zero = 111 ∷ 112 ∷ 61 ∷ 120 ∷ 97 ∷ 100 ∷ 100 ∷ 32 ∷ 97 ∷ 61 ∷ 105 ∷ 109 ∷ 109 ∷ 58 ∷ 49 ∷ 32 ∷ 98 ∷ 61 ∷ 99 ∷ 101 ∷ 108 ∷ 108 ∷ 58 ∷ 50 ∷ 32 ∷ 99 ∷ 61 ∷ 102 ∷ 112 ∷ 58 ∷ 51 ∷ 32 ∷ 98 ∷ 101 ∷ 61 ∷ 48 ∷ 32 ∷ 110 ∷ 61 ∷ 48 ∷ 10 ∷ []

-- be= left out
abbrev pub no_be : List ℕ
no_be = 111 ∷ 112 ∷ 61 ∷ 120 ∷ 109 ∷ 117 ∷ 108 ∷ 32 ∷ 97 ∷ 61 ∷ 102 ∷ 112 ∷ 58 ∷ 49 ∷ 32 ∷ 98 ∷ 61 ∷ 102 ∷ 112 ∷ 58 ∷ 50 ∷ 32 ∷ 99 ∷ 61 ∷ 99 ∷ 101 ∷ 108 ∷ 108 ∷ 58 ∷ 51 ∷ 32 ∷ 110 ∷ 61 ∷ 52 ∷ 10 ∷ []

-- fp: for a jump's destination
abbrev pub fp_for_destination : List ℕ
fp_for_destination = 111 ∷ 112 ∷ 61 ∷ 106 ∷ 117 ∷ 109 ∷ 112 ∷ 32 ∷ 97 ∷ 61 ∷ 105 ∷ 109 ∷ 109 ∷ 58 ∷ 49 ∷ 32 ∷ 98 ∷ 61 ∷ 102 ∷ 112 ∷ 58 ∷ 50 ∷ 32 ∷ 99 ∷ 61 ∷ 102 ∷ 112 ∷ 58 ∷ 48 ∷ 10 ∷ []

-- of an extension fp: in a alone
abbrev pub fp_in_one : List ℕ
fp_in_one = 111 ∷ 112 ∷ 61 ∷ 120 ∷ 97 ∷ 100 ∷ 100 ∷ 32 ∷ 97 ∷ 61 ∷ 102 ∷ 112 ∷ 58 ∷ 49 ∷ 32 ∷ 98 ∷ 61 ∷ 99 ∷ 101 ∷ 108 ∷ 108 ∷ 58 ∷ 50 ∷ 32 ∷ 99 ∷ 61 ∷ 102 ∷ 112 ∷ 58 ∷ 48 ∷ 32 ∷ 98 ∷ 101 ∷ 61 ∷ 48 ∷ 32 ∷ 110 ∷ 61 ∷ 49 ∷ 10 ∷ []

-- where each leaves every valid listing
pub marked_places :
    Means zero_leads (LeavesAt 15)
    × Means word_p (LeavesAt 22)
    × Means n_zero (LeavesAt 39)
    × Means no_be (LeavesAt 31)
    × Means fp_for_destination (LeavesAt 18)
    × Means fp_in_one (LeavesAt 17)
unfolding parse lit seq one number_from number index_in decimal_value op_tail modes from_call from_c from_b from_a line_fields listing_lines
marked_places = (
  leaves_at zero_leads 15 (omega arith) refl,
  leaves_at word_p 22 (omega arith) refl,
  leaves_at n_zero 39 (omega arith) refl,
  leaves_at no_be 31 (omega arith) refl,
  leaves_at fp_for_destination 18 (omega arith) refl,
  leaves_at fp_in_one 17 (omega arith) refl,
)
