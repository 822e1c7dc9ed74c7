-- Inner: a line's fields, each behind the one before it, as the reader goes, and lines one after the other. The promise
-- (listing_spec, specs/Reading) knows nothing of this.
-- Declared in src/: Operand, Kind, Form (form); Span (listing_forms).
use Rattle.std.specs.Prelude.{ℕ, cond, List, [], ◌∷◌, eqb}
use Rattle.form.specs.declared.Operand.{Operand}
use Rattle.form.specs.declared.Kind.{Kind}
use Rattle.form.specs.declared.Kind.TheVariants.{Add, Mul, Deref, Jump, Extension}
use Rattle.form.specs.declared.Form.{Form}
use Rattle.text_patterns.specs.Pattern.{Pattern, done, lit, seq, many}
use Rattle.text_patterns.specs.Fields.{one, number}
use Rattle.text_fields.specs.Digit.{decimal_value, index_in}
use Rattle.listing_spec.specs.Listing.{op_key, a_key, n_key}
use Rattle.listing_forms.specs.Ranges.{op_of, mode_of, a_range, b_range, c_range}
use Rattle.listing_forms.specs.Forms.{greatest}
use Rattle.listing_forms.specs.declared.Span.{Span}

-- a kind by its first letter, a m d j x, an operation by its second, a m p, a mode by its first, i c f
abbrev pub kind_letters : List ℕ
kind_letters = 97 ∷ 109 ∷ 100 ∷ 106 ∷ 120 ∷ []

abbrev pub op_letters : List ℕ
op_letters = 97 ∷ 109 ∷ 112 ∷ []

abbrev pub mode_letters : List ℕ
mode_letters = 105 ∷ 99 ∷ 102 ∷ []

-- the letters behind it: dd, ul, eref, ump
abbrev pub kind_rest : ℕ → List ℕ
kind_rest k =
    cond (eqb k 0) (100 ∷ 100 ∷ [])
    (cond (eqb k 1) (117 ∷ 108 ∷ [])
    (cond (eqb k 2) (101 ∷ 114 ∷ 101 ∷ 102 ∷ [])
    (117 ∷ 109 ∷ 112 ∷ [])))

-- of three texts one by its number
abbrev pub of_three : List ℕ → List ℕ → List ℕ → ℕ → List ℕ
of_three zero one two n = cond (eqb n 0) zero (cond (eqb n 1) one two)

-- dd, ul, eq
abbrev pub op_rest : ℕ → List ℕ
op_rest o = of_three (100 ∷ 100 ∷ []) (117 ∷ 108 ∷ []) (101 ∷ 113 ∷ []) o

-- mm: ell: p:
abbrev pub mode_rest : ℕ → List ℕ
mode_rest m = of_three (109 ∷ 109 ∷ 58 ∷ []) (101 ∷ 108 ∷ 108 ∷ 58 ∷ []) (112 ∷ 58 ∷ []) m

-- what is left of an op's text behind its first letter; an extension's operation is its value
unfoldable pub op_tail : ℕ → Pattern ℕ
op_tail k = cond (eqb k 4) (seq (one (index_in op_letters) 0 2) (λ o. lit (op_rest o) (done o))) (lit (kind_rest k) (done 0))

-- a mode of a range
unfoldable pub modes : Span → Pattern ℕ
modes r = seq (one (index_in mode_letters) r.low r.high) (λ m. lit (mode_rest m) (done m))

-- a word that a byte ends
abbrev pub word_field : ℕ → Pattern ℕ
word_field end = number decimal_value 0 greatest end

-- the byte behind operand c: a space for extension, else LF
abbrev pub last_end : ℕ → ℕ
last_end k = cond (eqb k 4) 32 10

abbrev pub operand_from : ℕ → ℕ → Operand
operand_from m w = record { mode = mode_of m; word = w }

abbrev pub plain_kind : ℕ → Kind
plain_kind k = cond (eqb k 0) Add (cond (eqb k 1) Mul (cond (eqb k 2) Deref Jump))

abbrev pub call_kind : ℕ → ℕ → ℕ → Kind
call_kind o be n = Extension (op_of o) (eqb be 1) n

abbrev pub form_from : Kind → Operand → Operand → Operand → Form
form_from kind a b c = record { kind = kind; a = a; b = b; c = c }

-- be= and n=, for extension
unfoldable pub from_call : ℕ → ℕ → Operand → Operand → Operand → Pattern Form
from_call k o a b c =
    cond (eqb k 4)
    (lit (98 ∷ 101 ∷ 61 ∷ [])
    (seq (one decimal_value 0 1) (λ be. lit n_key (seq (number decimal_value 1 1048576 10) (λ n. done (form_from (call_kind o be n) a b c))))))
    (done (form_from (plain_kind k) a b c))

-- c=, b=, a=
unfoldable pub from_c : ℕ → ℕ → Operand → Operand → Pattern Form
from_c k o a b = lit (99 ∷ 61 ∷ []) (seq (modes (c_range k)) (λ m. seq (word_field (last_end k)) (λ w. from_call k o a b (operand_from m w))))

unfoldable pub from_b : ℕ → ℕ → ℕ → ℕ → Pattern Form
from_b k o ma wa =
    lit (98 ∷ 61 ∷ []) (seq (modes (b_range k ma)) (λ m. seq (word_field 32) (λ w. from_c k o (operand_from ma wa) (operand_from m w))))

unfoldable pub from_a : ℕ → ℕ → Pattern Form
from_a k o = lit a_key (seq (modes (a_range k)) (λ m. seq (word_field 32) (λ w. from_b k o m w)))

unfoldable pub line_fields : Pattern Form
line_fields = lit op_key (seq (one (index_in kind_letters) 0 4) (λ k. seq (op_tail k) (λ o. from_a k o)))

-- 1 to 2^20 lines
unfoldable pub listing_lines : Pattern (List Form)
listing_lines = seq line_fields (λ f. many line_fields 1048575 (f ∷ []))
