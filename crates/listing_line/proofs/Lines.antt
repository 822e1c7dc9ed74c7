-- A line's fields, one behind the other: what each part of its pattern spells, from operand c back to the whole.
-- Assumes nothing.
use Prim.Native.Nat.{ℕ, ◌≤◌}
use mathlib.Core.Bool.{Bool, true, false}
use mathlib.Core.List.{List, [], ◌∷◌, ◌++◌}
use mathlib.Core.Path.{◌≡◌, refl, sym, ap}
use native.Mathlib.Omega.{arith}
use lib.Dec.{eqb}
use lib.ListN.{get_or}
use Rattle.word.proofs.Tests.{cases, by_test}
use Rattle.form.specs.declared.Operand.{Operand}
use Rattle.form.specs.declared.Form.{Form}
use Rattle.text_patterns.specs.Pattern.{seq, Spelling}
use Rattle.text_patterns.proofs.Joined.{spelling_as, spelling_seq, spelling_lit}
use Rattle.text_fields.specs.Digit.{decimal_value}
use Rattle.listing_spec.specs.Listing.{op_key, a_key}
use Rattle.listing_forms.specs.Ranges.{kind_number, a_range, b_range, c_range}
use Rattle.listing_forms.specs.declared.Span.{Span}
use Rattle.listing_line.specs.Line.{kind_letters, op_tail, last_end, operand_from, from_call, from_c, from_b, from_a, line_fields}
use Rattle.listing_line.proofs.Fields.{OpIn, op_written, spelling_kind, spelling_op}
use Rattle.listing_line.proofs.Parts.{op_in, CallPart, call_written, spelling_call, of_operands, of_kind, of_op, OperandPart, operand_written, spelling_operand}

-- a range of modes has one, and none above 2
abbrev pub Fits : Span → Type 0
Fits r = (r.low ≤ r.high) × (r.high ≤ 2)

pub a_fits : (k : ℕ) → Fits (a_range k)
a_fits k = by_test Fits (eqb k 2) (λ _. omega arith) (λ _. by_test Fits (eqb k 4) (λ _. omega arith) (λ _. omega arith))

pub b_fits : (k a : ℕ) → Fits (b_range k a)
b_fits k a = by_test Fits (eqb k 2) (λ _. omega arith) (λ _. by_test Fits (eqb a 2) (λ _. omega arith) (λ _. omega arith))

pub c_fits : (k : ℕ) → Fits (c_range k)
c_fits k = by_test Fits (eqb k 3) (λ _. omega arith) (λ _. omega arith)

-- a space and LF are no digits
pub ends_word : (k : ℕ) → 10 ≤ decimal_value (last_end k)
unfolding decimal_value
ends_word k = cases (eqb k 4) (λ e. rw e (omega arith)) (λ e. rw e (omega arith))

-- what is left of a form from operand c, b and a on, and its text
abbrev CPart : ℕ → ℕ → Operand → Operand → Form → Type 0
CPart k o a b = OperandPart (c_range k) (λ m w. CallPart (eqb k 4) k o a b (operand_from m w)) (λ f. f.c)

abbrev c_written : ℕ → Form → List ℕ
c_written k f = (99 ∷ 61 ∷ []) ++ operand_written (last_end k) (call_written (eqb k 4)) (λ g. g.c) f

abbrev BPart : ℕ → ℕ → ℕ → ℕ → Form → Type 0
BPart k o ma wa = OperandPart (b_range k ma) (λ m w. CPart k o (operand_from ma wa) (operand_from m w)) (λ f. f.b)

abbrev b_written : ℕ → Form → List ℕ
b_written k f = (98 ∷ 61 ∷ []) ++ operand_written 32 (c_written k) (λ g. g.b) f

abbrev APart : ℕ → ℕ → Form → Type 0
APart k o = OperandPart (a_range k) (λ m w. BPart k o m w) (λ f. f.a)

abbrev a_written : ℕ → Form → List ℕ
a_written k f = a_key ++ operand_written 32 (b_written k) (λ g. g.a) f

module _ (k o : ℕ) where
  spelling_c : (a b : Operand) → Spelling false (from_c k o a b) (CPart k o a b) (c_written k)
  unfolding from_c
  spelling_c a b =
      spelling_lit (99 ∷ 61 ∷ [])
      (spelling_operand (c_range k) (last_end k) (λ m w. from_call k o a b (operand_from m w)) (λ m w. CallPart (eqb k 4) k o a b (operand_from m w))
      (call_written (eqb k 4)) (λ f. f.c) (c_fits k).0 (c_fits k).1 (ends_word k)
      (λ m w f h. (of_operands k o a b (operand_from m w) (eqb k 4) f h).2) (λ m w h. spelling_call k o a b (operand_from m w)))

  spelling_b : (ma wa : ℕ) → Spelling false (from_b k o ma wa) (BPart k o ma wa) (b_written k)
  unfolding from_b decimal_value
  spelling_b ma wa =
      spelling_lit (98 ∷ 61 ∷ [])
      (spelling_operand (b_range k ma) 32 (λ m w. from_c k o (operand_from ma wa) (operand_from m w)) (λ m w. CPart k o (operand_from ma wa) (operand_from m w))
      (c_written k) (λ f. f.b) (b_fits k ma).0 (b_fits k ma).1 (omega arith)
      (λ m w f h. (of_operands k o (operand_from ma wa) (operand_from m w) _ (eqb k 4) f h.1.1).1) (λ m w h. spelling_c (operand_from ma wa) (operand_from m w)))

  spelling_a : Spelling false (from_a k o) (APart k o) (a_written k)
  unfolding from_a decimal_value
  spelling_a =
      spelling_lit a_key
      (spelling_operand (a_range k) 32 (λ m w. from_b k o m w) (λ m w. BPart k o m w)
      (b_written k) (λ f. f.a) (a_fits k).0 (a_fits k).1 (omega arith)
      (λ m w f h. (of_operands k o (operand_from m w) _ _ (eqb k 4) f h.1.1.1.1).0) (λ m w h. spelling_b m w))

-- from the kind's second letter on, and the whole
abbrev OpPart : ℕ → Form → Type 0
OpPart k f = OpIn (eqb k 4) (op_in f.kind) × APart k (op_in f.kind) f

abbrev op_part_written : ℕ → Form → List ℕ
op_part_written k f = op_written k (op_in f.kind) ++ a_written k f

few : (t : Bool) (o : ℕ) → OpIn t o → (o ≤ 2) × (t ≡ false → 0 ≡ o)
few true o h = (h.1, λ e. let z : ◌≡◌ {A = ℕ} 0 1 = cc in absurd (omega arith))
few false o h = (omega (arith, h), λ e. h)

spelling_after : (k : ℕ) → k ≤ 4 → Spelling false (seq (op_tail k) (λ o. from_a k o)) (OpPart k) (op_part_written k)
spelling_after k h =
    spelling_as (λ f. (λ x. x, λ x. x)) (λ f x. refl)
    (spelling_seq (λ o. from_a k o) (APart k) (a_written k) (λ f. op_in f.kind)
    (λ o f i j. let s = few (eqb k 4) o i in of_op (eqb k 4) k o _ _ _ f h refl s.0 s.1 j.1.1.1.1.1.1) (spelling_op k) (λ o i. spelling_a k o))

abbrev pub All : Form → Type 0
All f = ((0 ≤ kind_number f.kind) × (kind_number f.kind ≤ 4)) × OpPart (kind_number f.kind) f

abbrev pub all_written : Form → List ℕ
all_written f = op_key ++ ((get_or kind_letters (kind_number f.kind) 0 ∷ []) ++ op_part_written (kind_number f.kind) f)

same_kind : (k : ℕ) (f : Form) → k ≤ 4 → OpPart k f → kind_number f.kind ≡ k
same_kind k f h x = of_kind (eqb k 4) k (op_in f.kind) _ _ _ f h refl x.1.1.1.1.1.1.1

pub all_fields : Spelling false line_fields All all_written
unfolding line_fields
all_fields =
    spelling_lit op_key
    (spelling_seq (λ k. seq (op_tail k) (λ o. from_a k o)) OpPart (λ f. op_part_written (kind_number f.kind) f) (λ f. kind_number f.kind)
    (λ k f h x. same_kind k f h.1 x) spelling_kind
    (λ k h. spelling_as (λ f. (λ x. x, λ x. x)) (λ f x. ap (λ (n : ℕ). op_part_written n f) (sym (same_kind k f h.1 x))) (spelling_after k h.1)))
