-- The fields of a line, as their readers know them: kinds, operations, modes, words, and a call's be and n.
-- Assumes nothing.
use Prim.Native.Nat.{ℕ, zero, suc, ◌≤◌, ◌<◌}
use mathlib.Core.Bool.{Bool, true, false, cond}
use mathlib.Core.List.{List, [], ◌∷◌, ◌++◌}
use mathlib.Core.Path.{◌≡◌, refl, sym, ap}
use native.Mathlib.Omega.{arith}
use lib.Dec.{eqb}
use lib.ListN.{get_or}
use Rattle.word.proofs.Tests.{cases}
use Rattle.lines.specs.Line.{digit}
use Rattle.text_patterns.specs.Pattern.{done, lit, seq, Spelling}
use Rattle.text_patterns.specs.Fields.{Digits, one, numeral, number}
use Rattle.text_patterns.proofs.Joined.{spelling_as, spelling_done, spelling_seq, spelling_lit}
use Rattle.text_patterns.proofs.Digits.{spelling_one}
use Rattle.text_patterns.proofs.Number.{spelling_number}
use Rattle.text_fields.specs.Digit.{decimal_value, index_in}
use Rattle.text_fields.proofs.Letters.{letters_differ}
use Rattle.text_fields.proofs.Decimals.{tens}
use Rattle.listing_forms.specs.Forms.{greatest}
use Rattle.listing_forms.specs.declared.Span.{Span}
use Rattle.listing_line.specs.Line.{kind_letters, op_letters, mode_letters, kind_rest, op_rest, mode_rest, op_tail, modes, word_field}

-- of three letters, and of five, each is another
three : (x y z : ℕ) → index_in (x ∷ y ∷ z ∷ []) x ≡ 0 → index_in (x ∷ y ∷ z ∷ []) y ≡ 1 → index_in (x ∷ y ∷ z ∷ []) z ≡ 2
    → (d : ℕ) → d < 3 → index_in (x ∷ y ∷ z ∷ []) (get_or (x ∷ y ∷ z ∷ []) d 0) ≡ d
three x y z e f g zero h = e
three x y z e f g (suc zero) h = f
three x y z e f g (suc (suc zero)) h = g
three x y z e f g (suc (suc (suc d))) h = absurd (omega arith)

five : (d : ℕ) → d < 5 → index_in kind_letters (get_or kind_letters d 0) ≡ d
unfolding index_in
five zero h = refl
five (suc zero) h = refl
five (suc (suc zero)) h = refl
five (suc (suc (suc zero))) h = refl
five (suc (suc (suc (suc zero)))) h = refl
five (suc (suc (suc (suc (suc d))))) h = absurd (omega arith)

kind_digits : Digits 5 (λ d. get_or kind_letters d 0) (index_in kind_letters)
kind_digits = letters_differ kind_letters (omega arith) five

op_digits : Digits 3 (λ d. get_or op_letters d 0) (index_in op_letters)
unfolding index_in
op_digits = letters_differ op_letters (omega arith) (three 97 109 112 refl refl refl)

mode_digits : Digits 3 (λ d. get_or mode_letters d 0) (index_in mode_letters)
unfolding index_in
mode_digits = letters_differ mode_letters (omega arith) (three 105 99 102 refl refl refl)

pub spelling_kind : Spelling false (one (index_in kind_letters) 0 4) (λ k. (0 ≤ k) × (k ≤ 4)) (λ k. get_or kind_letters k 0 ∷ [])
spelling_kind = spelling_one kind_digits 0 4 (omega arith) (omega arith)

-- a letter of a range, and the letters behind it
module _ (letters : List ℕ) (rest : ℕ → List ℕ) where
  abbrev pub named : ℕ → List ℕ
  named m = (get_or letters m 0 ∷ []) ++ (rest m ++ [])

  spelling_named : (low high : ℕ) → Spelling false (one (index_in letters) low high) (λ m. (low ≤ m) × (m ≤ high)) (λ m. get_or letters m 0 ∷ [])
      → Spelling false (seq (one (index_in letters) low high) (λ m. lit (rest m) (done m))) (λ m. (low ≤ m) × (m ≤ high)) named
  spelling_named low high w =
      spelling_as (λ m. (λ h. h.0, λ h. (h, refl))) (λ m h. refl)
      (spelling_seq (λ m. lit (rest m) (done m)) (λ m x. m ≡ x) (λ x. rest x ++ []) (λ x. x) (λ m x h e. sym e) w
      (λ m h. spelling_as (λ x. (λ e. e, λ e. e)) (λ x e. ap (λ (y : ℕ). rest y ++ []) e) (spelling_lit (rest m) (spelling_done m))))

pub spelling_mode_letter : (low high : ℕ) → low ≤ high → high ≤ 2
    → Spelling false (one (index_in mode_letters) low high) (λ m. (low ≤ m) × (m ≤ high)) (λ m. get_or mode_letters m 0 ∷ [])
spelling_mode_letter low high l h = spelling_one mode_digits low high l (omega arith)

pub spelling_op_letter : Spelling false (one (index_in op_letters) 0 2) (λ o. (0 ≤ o) × (o ≤ 2)) (λ o. get_or op_letters o 0 ∷ [])
spelling_op_letter = spelling_one op_digits 0 2 (omega arith) (omega arith)

pub spelling_modes : (r : Span) → r.low ≤ r.high → r.high ≤ 2 → Spelling false (modes r) (λ m. (r.low ≤ m) × (m ≤ r.high)) (named mode_letters mode_rest)
unfolding modes
spelling_modes r l h = spelling_named mode_letters mode_rest r.low r.high (spelling_mode_letter r.low r.high l h)

-- the value of an op's tail: an extension's operation, and 0 of another kind
abbrev pub OpIn : Bool → ℕ → Type 0
OpIn true o = (0 ≤ o) × (o ≤ 2)
OpIn false o = 0 ≡ o

abbrev pub op_written : ℕ → ℕ → List ℕ
op_written k = cond (eqb k 4) (named op_letters op_rest) (λ o. kind_rest k ++ [])

pub spelling_op : (k : ℕ) → Spelling false (op_tail k) (OpIn (eqb k 4)) (op_written k)
unfolding op_tail
spelling_op k =
    cases (eqb k 4)
    (λ e. rw e (spelling_named op_letters op_rest 0 2 spelling_op_letter))
    (λ e. rw e (spelling_lit (kind_rest k) (spelling_done 0)))

-- a word that a space or LF ends
pub spelling_word : (end : ℕ) → 10 ≤ decimal_value end → Spelling false (word_field end) (λ x. (0 ≤ x) × (x ≤ greatest)) (λ x. numeral digit x ++ (end ∷ []))
spelling_word end h = spelling_number tens 0 greatest end (omega arith) (omega arith) h

pub spelling_be : Spelling false (one decimal_value 0 1) (λ x. (0 ≤ x) × (x ≤ 1)) (λ x. digit x ∷ [])
spelling_be = spelling_one tens 0 1 (omega arith) (omega arith)

pub spelling_n : Spelling false (number decimal_value 1 1048576 10) (λ x. (1 ≤ x) × (x ≤ 1048576)) (λ x. numeral digit x ++ (10 ∷ []))
unfolding decimal_value
spelling_n = spelling_number tens 1 1048576 10 (omega arith) (omega arith) (omega arith)
