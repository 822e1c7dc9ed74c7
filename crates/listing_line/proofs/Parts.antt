-- What is left of a line from a field on, as its values and its text: an operand, and what stands behind operand c.
-- Assumes nothing.
use Prim.Native.Nat.{ℕ, zero, suc, ◌≤◌}
use mathlib.Core.Bool.{Bool, true, false}
use mathlib.Core.List.{List, [], ◌∷◌, ◌++◌}
use mathlib.Core.Path.{◌≡◌, refl, sym, ap, ◌∙◌}
use native.Mathlib.Omega.{arith}
use lib.Dec.{eqb}
use borrow.Author.Tests.{eqb-true}
use Rattle.word.proofs.Tests.{cases}
use Rattle.form.specs.Data.{bit}
use Rattle.form.specs.declared.Mode.{Mode}
use Rattle.form.specs.declared.Mode.TheVariants.{Immediate, Cell, Frame}
use Rattle.form.specs.declared.Operand.{Operand}
use Rattle.form.specs.declared.Op.{Op}
use Rattle.form.specs.declared.Op.TheVariants as op
use Rattle.form.specs.declared.Kind.{Kind}
use Rattle.form.specs.declared.Kind.TheVariants.{Add, Mul, Deref, Jump, Extension}
use Rattle.form.specs.declared.Form.{Form}
use Rattle.lines.specs.Line.{digit}
use Rattle.text_patterns.specs.Pattern.{Pattern, done, lit, seq, Spelling}
use Rattle.text_patterns.specs.Fields.{one, numeral, number}
use Rattle.text_patterns.proofs.Joined.{spelling_done, spelling_seq, spelling_lit}
use Rattle.text_fields.specs.Digit.{decimal_value}
use Rattle.listing_spec.specs.Listing.{n_key}
use Rattle.listing_forms.specs.Ranges.{kind_number, op_number, op_of, mode_number, mode_of}
use Rattle.listing_forms.specs.Forms.{greatest}
use Rattle.listing_forms.specs.declared.Span.{Span}
use Rattle.listing_line.specs.Line.{mode_letters, mode_rest, modes, word_field, operand_from, plain_kind, call_kind, form_from, from_call}
use Rattle.listing_line.proofs.Fields.{named, spelling_modes, spelling_word, spelling_be, spelling_n}

-- a mode and its number
pub mode_back : (m : ℕ) → m ≤ 2 → mode_number (mode_of m) ≡ m
mode_back zero h = refl
mode_back (suc zero) h = refl
mode_back (suc (suc zero)) h = refl
mode_back (suc (suc (suc m))) h = absurd (omega arith)

pub mode_there : (m : Mode) → mode_of (mode_number m) ≡ m
mode_there Immediate = refl
mode_there Cell = refl
mode_there Frame = refl

-- an operation and its number
pub op_back : (o : ℕ) → o ≤ 2 → op_number (op_of o) ≡ o
op_back zero h = refl
op_back (suc zero) h = refl
op_back (suc (suc zero)) h = refl
op_back (suc (suc (suc o))) h = absurd (omega arith)

pub op_there : (o : Op) → op_of (op_number o) ≡ o
op_there op.Add = refl
op_there op.Mul = refl
op_there op.Peq = refl

-- an operation's number, be and n of a kind; 0 where it has none
abbrev pub op_in : Kind → ℕ
op_in (Extension o be n) = op_number o
op_in Add = 0
op_in Mul = 0
op_in Deref = 0
op_in Jump = 0

abbrev pub be_in : Kind → ℕ
be_in (Extension o be n) = bit be
be_in Add = 0
be_in Mul = 0
be_in Deref = 0
be_in Jump = 0

abbrev pub n_in : Kind → ℕ
n_in (Extension o be n) = n
n_in Add = 0
n_in Mul = 0
n_in Deref = 0
n_in Jump = 0

-- behind operand c: whether be and n follow
abbrev pub CallPart : Bool → ℕ → ℕ → Operand → Operand → Operand → Form → Type 0
CallPart true k o a b c f =
    ((0 ≤ be_in f.kind) × (be_in f.kind ≤ 1))
    × (((1 ≤ n_in f.kind) × (n_in f.kind ≤ 1048576)) × (form_from (call_kind o (be_in f.kind) (n_in f.kind)) a b c ≡ f))
CallPart false k o a b c f = form_from (plain_kind k) a b c ≡ f

abbrev pub n_written : Form → List ℕ
n_written f = n_key ++ ((numeral digit (n_in f.kind) ++ (10 ∷ [])) ++ [])

abbrev pub call_written : Bool → Form → List ℕ
call_written true f = (98 ∷ 101 ∷ 61 ∷ []) ++ ((digit (be_in f.kind) ∷ []) ++ n_written f)
call_written false f = []

be_back : (be : ℕ) → be ≤ 1 → bit (eqb be 1) ≡ be
be_back zero h = refl
be_back (suc zero) h = refl
be_back (suc (suc be)) h = absurd (omega arith)

module _ (k o : ℕ) (a b c : Operand) where
  abbrev NPart : ℕ → Form → Type 0
  NPart be f = ((1 ≤ n_in f.kind) × (n_in f.kind ≤ 1048576)) × (form_from (call_kind o be (n_in f.kind)) a b c ≡ f)

  spelling_call_n : (be : ℕ) → Spelling false (lit n_key (seq (number decimal_value 1 1048576 10) (λ n. done (form_from (call_kind o be n) a b c)))) (NPart be) n_written
  spelling_call_n be =
      spelling_lit n_key
      (spelling_seq (λ n. done (form_from (call_kind o be n) a b c)) (λ n f. form_from (call_kind o be n) a b c ≡ f) (λ f. []) (λ f. n_in f.kind)
      (λ n f h e. ap (λ (x : Form). n_in x.kind) (sym e)) spelling_n (λ n h. spelling_done (form_from (call_kind o be n) a b c)))

  spelling_called :
      Spelling false
      (lit (98 ∷ 101 ∷ 61 ∷ []) (seq (one decimal_value 0 1) (λ be. lit n_key (seq (number decimal_value 1 1048576 10) (λ n. done (form_from (call_kind o be n) a b c))))))
      (CallPart true k o a b c) (call_written true)
  spelling_called =
      spelling_lit (98 ∷ 101 ∷ 61 ∷ [])
      (spelling_seq (λ be. lit n_key (seq (number decimal_value 1 1048576 10) (λ n. done (form_from (call_kind o be n) a b c)))) NPart n_written (λ f. be_in f.kind)
      (λ be f h e. ap (λ (x : Form). be_in x.kind) (sym e.1) ∙ be_back be h.1) spelling_be (λ be h. spelling_call_n be))

  pub spelling_call : Spelling false (from_call k o a b c) (CallPart (eqb k 4) k o a b c) (call_written (eqb k 4))
  unfolding from_call
  spelling_call = cases (eqb k 4) (λ e. rw e spelling_called) (λ e. rw e (spelling_done (form_from (plain_kind k) a b c)))

  -- the operands and the kind of what is read
  pub of_operands : (t : Bool) (f : Form) → CallPart t k o a b c f → (a ≡ f.a) × (b ≡ f.b) × (c ≡ f.c)
  of_operands true f h =
      (ap (λ (x : Form). x.a) h.1.1, ap (λ (x : Form). x.b) h.1.1, ap (λ (x : Form). x.c) h.1.1)
  of_operands false f h = (ap (λ (x : Form). x.a) h, ap (λ (x : Form). x.b) h, ap (λ (x : Form). x.c) h)

plain_number : (k : ℕ) → k ≤ 4 → eqb k 4 ≡ false → (kind_number (plain_kind k) ≡ k) × (op_in (plain_kind k) ≡ 0)
plain_number zero h e = (refl, refl)
plain_number (suc zero) h e = (refl, refl)
plain_number (suc (suc zero)) h e = (refl, refl)
plain_number (suc (suc (suc zero))) h e = (refl, refl)
plain_number (suc (suc (suc (suc zero)))) h e = let z : ◌≡◌ {A = ℕ} 0 1 = cc in absurd (omega arith)
plain_number (suc (suc (suc (suc (suc k))))) h e = absurd (omega arith)

-- the kind's number, and its operation's
pub of_kind : (t : Bool) (k o : ℕ) (a b c : Operand) (f : Form) → k ≤ 4 → eqb k 4 ≡ t → CallPart t k o a b c f → kind_number f.kind ≡ k
of_kind true k o a b c f h e part = ap (λ (x : Form). kind_number x.kind) (sym part.1.1) ∙ sym (eqb-true k 4 e)
of_kind false k o a b c f h e part = ap (λ (x : Form). kind_number x.kind) (sym part) ∙ (plain_number k h e).0

pub of_op : (t : Bool) (k o : ℕ) (a b c : Operand) (f : Form) → k ≤ 4 → eqb k 4 ≡ t → o ≤ 2 → (t ≡ false → 0 ≡ o) → CallPart t k o a b c f → op_in f.kind ≡ o
of_op true k o a b c f h e m z part = ap (λ (x : Form). op_in x.kind) (sym part.1.1) ∙ op_back o m
of_op false k o a b c f h e m z part = ap (λ (x : Form). op_in x.kind) (sym part) ∙ (plain_number k h e).1 ∙ z refl

-- an operand that a byte ends, and what is behind it
abbrev pub OperandPart : Span → (ℕ → ℕ → Form → Type 0) → (Form → Operand) → Form → Type 0
OperandPart r Q part f =
    ((r.low ≤ mode_number (part f).mode) × (mode_number (part f).mode ≤ r.high))
    × (((0 ≤ (part f).word) × ((part f).word ≤ greatest)) × Q (mode_number (part f).mode) (part f).word f)

abbrev pub operand_written : ℕ → (Form → List ℕ) → (Form → Operand) → Form → List ℕ
operand_written end q part f =
    named mode_letters mode_rest (mode_number (part f).mode) ++ ((numeral digit (part f).word ++ (end ∷ [])) ++ q f)

pub spelling_operand : (r : Span) (end : ℕ) (k : ℕ → ℕ → Pattern Form) (Q : ℕ → ℕ → Form → Type 0) (q : Form → List ℕ) (part : Form → Operand)
    → r.low ≤ r.high → r.high ≤ 2 → 10 ≤ decimal_value end
    → ((m w : ℕ) (f : Form) → Q m w f → operand_from m w ≡ part f)
    → ((m w : ℕ) → (r.low ≤ m) × (m ≤ r.high) → Spelling false (k m w) (Q m w) q)
    → Spelling false (seq (modes r) (λ m. seq (word_field end) (λ w. k m w))) (OperandPart r Q part) (operand_written end q part)
spelling_operand r end k Q q part low high ends tie w =
    spelling_seq (λ m. seq (word_field end) (λ w. k m w)) (λ m f. ((0 ≤ (part f).word) × ((part f).word ≤ greatest)) × Q m (part f).word f)
    (λ f. (numeral digit (part f).word ++ (end ∷ [])) ++ q f) (λ f. mode_number (part f).mode)
    (λ m f h i. ap (λ (x : Operand). mode_number x.mode) (sym (tie m (part f).word f i.1)) ∙ mode_back m (omega (arith, h.1)))
    (spelling_modes r low high)
    (λ m h. spelling_seq (k m) (Q m) q (λ f. (part f).word) (λ w f i j. ap (λ (x : Operand). x.word) (sym (tie m w f j))) (spelling_word end ends)
    (λ x i. w m x h))
