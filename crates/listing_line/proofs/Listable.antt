-- The fields' values are those of the forms that can be listed, and the fields' text is the form's line; so lines one
-- after the other are spelled by the listing's pattern.
-- Assumes nothing.
use Prim.Native.Nat.{ℕ, ◌^◌, ◌≤◌}
use mathlib.Core.Bool.{Bool, true, false}
use mathlib.Core.List.{List, [], ◌∷◌, ◌++◌, append_assoc, append-nil}
use mathlib.Core.Path.{◌≡◌, refl, sym, ap, ap₂, ◌∙◌}
use native.Mathlib.Omega.{arith}
use lib.Dec.{eqb}
use lib.ListN.{length, get_or}
use Rattle.form.specs.Data.{bit}
use Rattle.form.specs.declared.Mode.{Mode}
use Rattle.form.specs.declared.Mode.TheVariants.{Immediate, Cell, Frame}
use Rattle.form.specs.declared.Operand.{Operand}
use Rattle.form.specs.declared.Op.{Op}
use Rattle.form.specs.declared.Op.TheVariants as op
use Rattle.form.specs.declared.Kind.{Kind}
use Rattle.form.specs.declared.Kind.TheVariants.{Add, Mul, Deref, Jump, Extension}
use Rattle.form.specs.declared.Form.{Form}
use Rattle.lines.specs.Line.{digit, decimal}
use Rattle.text_patterns.specs.Pattern.{lit, Each, flat, Spelling}
use Rattle.text_patterns.specs.Fields.{numeral}
use Rattle.text_patterns.proofs.Joined.{spelling_as}
use Rattle.text_patterns.proofs.Many.{spelling_some}
use Rattle.text_fields.proofs.Decimals.{decimal_is, one_digit}
use Rattle.listing_spec.specs.Listing.{op_text, mode_name, op_key, a_key, b_key, c_key, n_key, call_text, form_line}
use Rattle.listing_forms.specs.Ranges.{kind_number, mode_number}
use Rattle.listing_forms.specs.Forms.{Listable, CallFits, greatest}
use Rattle.listing_line.specs.Line.{kind_letters, mode_letters, mode_rest, last_end, operand_from, form_from, line_fields, listing_lines}
use Rattle.listing_line.proofs.Fields.{named, OpIn, op_written}
use Rattle.listing_line.proofs.Parts.{op_there, mode_there, op_in, CallPart, call_written}
use Rattle.listing_line.proofs.Lines.{All, all_written, all_fields}

-- what is known of the call, by the kind
module _ (a b c : Operand) where
  call_fits : (kind : Kind) (o : ℕ) (a' b' c' : Operand) → CallPart (eqb (kind_number kind) 4) (kind_number kind) o a' b' c' (form_from kind a b c) → CallFits kind
  call_fits Add o a' b' c' h = tt
  call_fits Mul o a' b' c' h = tt
  call_fits Deref o a' b' c' h = tt
  call_fits Jump o a' b' c' h = tt
  call_fits (Extension op be n) o a' b' c' h = (h.1.0.0, omega (arith, h.1.0.1))

  bit_small : (be : Bool) → (0 ≤ bit be) × (bit be ≤ 1) × (eqb (bit be) 1 ≡ be)
  bit_small true = (omega arith, omega arith, refl)
  bit_small false = (omega arith, omega arith, refl)

  call_part : (kind : Kind) → CallFits kind → CallPart (eqb (kind_number kind) 4) (kind_number kind) (op_in kind) a b c (form_from kind a b c)
  call_part Add h = refl
  call_part Mul h = refl
  call_part Deref h = refl
  call_part Jump h = refl
  call_part (Extension op be n) h =
      let s = bit_small be in
      ((s.0, s.1), ((h.0, omega (arith, h.1)), ap₂ (λ (x : Op) (y : Bool). form_from (Extension x y n) a b c) (op_there op) s.2))

op_in_lem : (kind : Kind) → OpIn (eqb (kind_number kind) 4) (op_in kind)
op_in_lem Add = refl
op_in_lem Mul = refl
op_in_lem Deref = refl
op_in_lem Jump = refl
op_in_lem (Extension op.Add be n) = omega arith
op_in_lem (Extension op.Mul be n) = omega arith
op_in_lem (Extension op.Peq be n) = omega arith

kind_most : (kind : Kind) → kind_number kind ≤ 4
kind_most Add = omega arith
kind_most Mul = omega arith
kind_most Deref = omega arith
kind_most Jump = omega arith
kind_most (Extension op be n) = omega arith

operand_there : (x : Operand) → operand_from (mode_number x.mode) x.word ≡ x
operand_there x = ap (λ (m : Mode). record { mode = m; word = x.word }) (mode_there x.mode)

listable : (f : Form) → All f → Listable f
listable f h =
    let a = h.1.1 in
    let b = a.1.1 in
    let c = b.1.1 in
    record {
      a_mode = a.0;
      a_word = a.1.0.1;
      b_mode = b.0;
      b_word = b.1.0.1;
      c_mode = c.0;
      c_word = c.1.0.1;
      call = call_fits f.a f.b f.c f.kind (op_in f.kind) _ _ _ c.1.1;
    }

from_listable : (f : Form) → Listable f → All f
from_listable f l = (
  (omega arith, kind_most f.kind),
  (
    op_in_lem f.kind,
    (
      l.a_mode,
      (
        (omega arith, l.a_word),
        (
          l.b_mode,
          (
            (omega arith, l.b_word),
            (
              l.c_mode,
              (
                (omega arith, l.c_word),
                rw (operand_there f.a, operand_there f.b, operand_there f.c) (call_part f.a f.b f.c f.kind l.call),
              ),
            ),
          ),
        ),
      ),
    ),
  ),
)

-- the text of each field
op_text_lem : (kind : Kind) → (get_or kind_letters (kind_number kind) 0 ∷ []) ++ op_written (kind_number kind) (op_in kind) ≡ op_text kind
op_text_lem Add = refl
op_text_lem Mul = refl
op_text_lem Deref = refl
op_text_lem Jump = refl
op_text_lem (Extension op.Add be n) = refl
op_text_lem (Extension op.Mul be n) = refl
op_text_lem (Extension op.Peq be n) = refl

mode_text_lem : (m : Mode) → named mode_letters mode_rest (mode_number m) ≡ mode_name m
mode_text_lem Immediate = refl
mode_text_lem Cell = refl
mode_text_lem Frame = refl

word_text : (w : ℕ) → w ≤ greatest → numeral digit w ≡ decimal w
word_text w h = decimal_is w (omega arith)

bit_text : (be : Bool) → decimal (bit be) ≡ digit (bit be) ∷ []
bit_text true = one_digit 1 (omega arith)
bit_text false = one_digit 0 (omega arith)

call_regroup : (be b n x : List ℕ) → be ++ (b ++ (n ++ ((x ++ (10 ∷ [])) ++ []))) ≡ be ++ b ++ n ++ x ++ (10 ∷ [])
call_regroup be b n x = simp (append_assoc, append-nil)

module _ (a b c : Operand) where
  call_text_lem : (kind : Kind) → CallFits kind
      → (last_end (kind_number kind) ∷ []) ++ call_written (eqb (kind_number kind) 4) (form_from kind a b c) ≡ call_text kind ++ (10 ∷ [])
  call_text_lem Add h = refl
  call_text_lem Mul h = refl
  call_text_lem Deref h = refl
  call_text_lem Jump h = refl
  call_text_lem (Extension op be n) h =
      rw (word_text n (omega (arith, h.1)), bit_text be)
      (call_regroup (32 ∷ 98 ∷ 101 ∷ 61 ∷ []) (digit (bit be) ∷ []) n_key (decimal n))

-- a line as its fields have it, and as its definition has it
abbrev fielded : (l o ma wa mb wb mc wc e t : List ℕ) → List ℕ
fielded l o ma wa mb wb mc wc e t =
    op_key
    ++ (l ++ (o ++ (a_key ++ (ma ++ ((wa ++ (32 ∷ [])) ++ ((98 ∷ 61 ∷ []) ++ (mb ++ ((wb ++ (32 ∷ [])) ++ ((99 ∷ 61 ∷ []) ++ (mc ++ ((wc ++ e) ++ t)))))))))))

abbrev defined : (o ma wa mb wb mc wc : List ℕ) → List ℕ
defined o ma wa mb wb mc wc = op_key ++ o ++ a_key ++ (ma ++ wa) ++ b_key ++ (mb ++ wb) ++ c_key ++ (mc ++ wc)

regroup : (k l o aK ma wa s b mb wb c mc wc e t : List ℕ)
    → k ++ (l ++ (o ++ (aK ++ (ma ++ ((wa ++ s) ++ (b ++ (mb ++ ((wb ++ s) ++ (c ++ (mc ++ ((wc ++ e) ++ t)))))))))))
    ≡ k ++ (l ++ o) ++ aK ++ (ma ++ wa) ++ (s ++ b) ++ (mb ++ wb) ++ (s ++ c) ++ (mc ++ wc) ++ (e ++ t)
regroup k l o aK ma wa s b mb wb c mc wc e t = simp append_assoc

module _ (f : Form) (l : Listable f) where
  abbrev first : List ℕ
  first = get_or kind_letters (kind_number f.kind) 0 ∷ []

  abbrev second : List ℕ
  second = op_written (kind_number f.kind) (op_in f.kind)

  abbrev end : List ℕ
  end = last_end (kind_number f.kind) ∷ []

  abbrev call : List ℕ
  call = call_written (eqb (kind_number f.kind) 4) f

  by_texts : all_written f ≡ fielded first second (mode_name f.a.mode) (decimal f.a.word) (mode_name f.b.mode) (decimal f.b.word) (mode_name f.c.mode) (decimal f.c.word) end call
  by_texts i =
      fielded first second (mode_text_lem f.a.mode i) (word_text f.a.word l.a_word i) (mode_text_lem f.b.mode i) (word_text f.b.word l.b_word i)
      (mode_text_lem f.c.mode i) (word_text f.c.word l.c_word i) end call

  abbrev before : List ℕ → List ℕ
  before o = defined o (mode_name f.a.mode) (decimal f.a.word) (mode_name f.b.mode) (decimal f.b.word) (mode_name f.c.mode) (decimal f.c.word)

  by_line : before (first ++ second) ++ (end ++ call) ≡ before (op_text f.kind) ++ (call_text f.kind ++ (10 ∷ []))
  by_line i = before (op_text_lem f.kind i) ++ call_text_lem f.a f.b f.c f.kind l.call i

  same_text : all_written f ≡ form_line f
  unfolding form_line
  same_text =
      by_texts
      ∙ regroup op_key first second a_key (mode_name f.a.mode) (decimal f.a.word) (32 ∷ []) (98 ∷ 61 ∷ []) (mode_name f.b.mode) (decimal f.b.word)
      (99 ∷ 61 ∷ []) (mode_name f.c.mode) (decimal f.c.word) end call
      ∙ by_line
      ∙ sym (append_assoc (before (op_text f.kind)) (call_text f.kind) (10 ∷ []))

-- a line of a form that can be listed, and nothing else
pub spelling_line : Spelling false line_fields Listable form_line
spelling_line = spelling_as (λ f. (listable f, from_listable f)) (λ f h. same_text f (listable f h)) all_fields

-- 1 to 2^20 of them
pub spelling_listing : Spelling true listing_lines (λ fs. (1 ≤ length fs) × (length fs ≤ 2 ^ 20) × Each Listable fs) (flat form_line)
unfolding listing_lines line_fields lit
spelling_listing = spelling_some spelling_line 1048575
