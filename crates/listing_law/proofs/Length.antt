-- No line is longer than 77 bytes, and so no listing than 77 for each instruction; so a place fits 32 bits.
-- Assumes nothing.
use Prim.Native.Nat.{ℕ, zero, suc, ◌+◌, ◌*◌, ◌/◌, ◌%◌, ◌^◌, ◌≤◌, ◌<◌}
use mathlib.Core.Bool.{Bool, true, false}
use mathlib.Core.List.{List, [], ◌∷◌, ◌++◌}
use mathlib.Core.Path.{◌≡◌, sym, ap, ◌∙◌}
use native.Mathlib.Nat.{pow-suc, div-lt_iff_lt-mul}
use native.Mathlib.Omega.{arith}
use lib.Dec.{lit<}
use lib.ListN.{length, length-append}
use borrow.Author.Tests.{lt-ltb, le-ltb}
use Rattle.word.proofs.Tests.{by_order}
use Rattle.lines.specs.Line.{digit, decimal_in, decimal}
use Rattle.form.specs.Data.{bit}
use Rattle.form.specs.declared.Op.{Op}
use Rattle.form.specs.declared.Op.TheVariants as op
use Rattle.form.specs.declared.Mode.{Mode}
use Rattle.form.specs.declared.Mode.TheVariants.{Immediate, Cell, Frame}
use Rattle.form.specs.declared.Operand.{Operand}
use Rattle.form.specs.declared.Kind.{Kind}
use Rattle.form.specs.declared.Kind.TheVariants.{Add, Mul, Deref, Jump, Extension}
use Rattle.form.specs.declared.Form.{Form}
use Rattle.text_patterns.specs.Place.{Place}
use Rattle.text_patterns.specs.Pattern.{Each, flat}
use Rattle.text_patterns.proofs.Law.{shared_most}
use Rattle.listing_spec.specs.Listing.{op_text, mode_name, op_key, a_key, b_key, c_key, be_key, n_key, operand_text, call_text, form_line, listing_of}
use Rattle.listing_spec.specs.Program.{WellFormedProgram}
use Rattle.listing_spec.specs.Reading.{ValidListing}
use Rattle.listing_forms.specs.Forms.{greatest, CallFits, Listable}
use Rattle.listing_forms.proofs.Programs.{program_long, its_listing, of_forms}
use Rattle.listing_law.proofs.Senses.{valid_forms}

-- a number below a power of ten has no more digits than that
few_digits : (n k x : ℕ) → x < 10 ^ suc k → length (decimal_in n x) ≤ suc k
unfolding decimal_in
few_digits zero k x h = omega arith
few_digits (suc n) zero x h = rw (lt-ltb x 10 (omega (arith, pow-suc 10 0, h))) (omega arith)
few_digits (suc n) (suc k) x h =
    by_order x 10 (λ small. rw (lt-ltb x 10 small) (omega arith))
    (λ large.
    rw (le-ltb x 10 large)
    (omega (arith, length-append (decimal_in n (x / 10)) (digit (x % 10) ∷ []), few_digits n k (x / 10) ((div-lt_iff_lt-mul (lit< tt)).1 (rw (pow-suc 10 (suc k)) at h)))))

-- ten digits of a word, seven of n
word_digits : (x : ℕ) → x ≤ greatest → length (decimal x) ≤ 10
word_digits x h = few_digits 20 9 x (omega arith)

mode_most : (m : Mode) → length (mode_name m) ≤ 5
mode_most Immediate = omega arith
mode_most Cell = omega arith
mode_most Frame = omega arith

operand_most : (o : Operand) → o.word ≤ greatest → length (operand_text o) ≤ 15
operand_most o h = omega (arith, length-append (mode_name o.mode) (decimal o.word), mode_most o.mode, word_digits o.word h)

be_most : (be : Bool) → length (decimal (bit be)) ≤ 1
be_most true = few_digits 20 0 1 (omega arith)
be_most false = few_digits 20 0 0 (omega arith)

-- four letters of an extension, and fifteen bytes more: five letters are of deref alone
extension_most : (o : Op) (be : Bool) (n : ℕ) → length (op_text (Extension o be n)) ≤ 4
extension_most op.Add be n = omega arith
extension_most op.Mul be n = omega arith
extension_most op.Peq be n = omega arith

kind_most : (k : Kind) → CallFits k → length (op_text k) + length (call_text k) ≤ 19
kind_most Add h = omega arith
kind_most Mul h = omega arith
kind_most Deref h = omega arith
kind_most Jump h = omega arith
kind_most (Extension o be n) h =
    omega (
      arith,
      extension_most o be n,
      length-append (be_key ++ decimal (bit be) ++ n_key) (decimal n),
      length-append (be_key ++ decimal (bit be)) n_key,
      length-append be_key (decimal (bit be)),
      be_most be,
      few_digits 20 6 n (omega (arith, h.1)),
    )

line_most : (f : Form) → Listable f → length (form_line f) ≤ 77
unfolding form_line
line_most f l =
    let o = op_text f.kind in
    let a = operand_text f.a in
    let b = operand_text f.b in
    let c = operand_text f.c in
    let t = call_text f.kind in
    omega (
      arith,
      length-append (op_key ++ o ++ a_key ++ a ++ b_key ++ b ++ c_key ++ c ++ t) (10 ∷ []),
      length-append (op_key ++ o ++ a_key ++ a ++ b_key ++ b ++ c_key ++ c) t,
      length-append (op_key ++ o ++ a_key ++ a ++ b_key ++ b ++ c_key) c,
      length-append (op_key ++ o ++ a_key ++ a ++ b_key ++ b) c_key,
      length-append (op_key ++ o ++ a_key ++ a ++ b_key) b,
      length-append (op_key ++ o ++ a_key ++ a) b_key,
      length-append (op_key ++ o ++ a_key) a,
      length-append (op_key ++ o) a_key,
      length-append op_key o,
      kind_most f.kind l.call,
      operand_most f.a l.a_word,
      operand_most f.b l.b_word,
      operand_most f.c l.c_word,
    )

lines_most : (fs : List Form) → Each Listable fs → length (flat form_line fs) ≤ 77 * length fs
unfolding flat
lines_most [] each = omega arith
lines_most (f ∷ fs) each = omega (arith, length-append (form_line f) (flat form_line fs), line_most f each.0, lines_most fs each.1)

pub listing_most : (program : List ℕ) → WellFormedProgram program → length (listing_of program) ≤ 77 * (length program / 48)
listing_most program w =
    let (fs, some, most, each, is) = of_forms program w in
    let lines : length (listing_of program) ≡ length (flat form_line fs) = ap length (ap listing_of (sym is) ∙ its_listing fs each) in
    let long : length program ≡ 48 * length fs = sym (ap length is) ∙ program_long fs in
    omega (arith, lines, long, lines_most fs each)

-- what a text shares with a listing is no longer than that
pub place_fits : {text : List ℕ} {k : ℕ} → Place ValidListing text k → k < 2 ^ 32
place_fits {text} {k} p =
    let a = p.attained in
    let (fs, (some, most, each), is) = (valid_forms a.0).1 a.1 in
    let long : length (flat form_line fs) ≡ length a.0 = ap length is in
    omega (arith, a.2, shared_most a.0 text, lines_most fs each, long, most)
