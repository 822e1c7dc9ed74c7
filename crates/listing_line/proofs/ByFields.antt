-- A line's pattern, read field by field: where the reading stands behind each field, and where it stops.
-- Assumes nothing.
use Prim.Native.Nat.{ℕ, ◌≤◌}
use mathlib.Core.Bool.{false}
use mathlib.Core.List.{List, [], ◌∷◌}
use mathlib.Core.Path.{◌≡◌, ◌∙◌}
use native.Mathlib.Omega.{arith}
use lib.Dec.{eqb}
use lib.ListN.{drop}
use borrow.Author.Tests.{eq-eqb}
use Rattle.std.specs.Prelude.{Result, Ok, Err}
use Rattle.form.specs.declared.Operand.{Operand}
use Rattle.form.specs.declared.Form.{Form}
use Rattle.text_patterns.specs.Pattern.{Pattern, done, lit, seq, got, left, parse}
use Rattle.text_patterns.specs.Fields.{one, number}
use Rattle.text_fields.specs.Digit.{decimal_value, index_in}
use Rattle.text_fields.specs.Field.{Reaches, Stops, Read}
use Rattle.text_fields.specs.declared.Field.{Field}
use Rattle.text_fields.specs.declared.Stop.{Stop}
use Rattle.text_fields.proofs.Toward.{past_lit, stop_lit, past_field, stop_field}
use Rattle.listing_spec.specs.Listing.{op_key, a_key, n_key}
use Rattle.listing_forms.specs.Ranges.{a_range, b_range, c_range}
use Rattle.listing_forms.specs.declared.Span.{Span}
use Rattle.listing_line.specs.Line.{kind_letters, op_letters, mode_letters, op_rest, mode_rest, op_tail, modes, word_field, last_end, operand_from, plain_kind, call_kind, form_from, from_call, from_c, from_b, from_a, line_fields}
use Rattle.listing_line.proofs.Fields.{spelling_kind, spelling_modes, spelling_op, spelling_op_letter, spelling_mode_letter, spelling_word, spelling_be, spelling_n}
use Rattle.listing_line.proofs.Lines.{a_fits, b_fits, c_fits, ends_word}

-- a pattern is read as what another one leaves of it is read
pub through : {A : Type 0} (f g : Pattern A) (text : List ℕ) (from at : ℕ) (r : Result (Field A) Stop)
    → parse f (drop from text) ≡ parse g (drop at text) → Read g text at r → Read f text from r
through f g text from at (Ok v) e h = record { inside = h.inside; read = e ∙ h.read }
through f g text from at (Err s) e h = record { inside = h.inside; read = e ∙ h.read }

-- a letter, and the letters behind it
module _ (text : List ℕ) (at : ℕ) where
  module _ (r : Span) (low : r.low ≤ r.high) (high : r.high ≤ 2) where
    abbrev Letter : Pattern ℕ
    Letter = one (index_in mode_letters) r.low r.high

    pub stop_mode : {to : ℕ} → Stops Letter text at to → Stops (modes r) text at to
    unfolding modes
    stop_mode s = record { inside = s.inside; read = stop_field Letter (λ m. lit (mode_rest m) (done m)) _ (spelling_mode_letter r.low r.high low high).live s }

    pub mode_read : {m to : ℕ} → Reaches Letter text at m to → (x : Result (Field ℕ) Stop) → Read (lit (mode_rest m) (done m)) text to x → Read (modes r) text at x
    unfolding modes
    mode_read {m} {to} l x =
        through (modes r) (lit (mode_rest m) (done m)) text at to x
        (past_field Letter (λ m. lit (mode_rest m) (done m)) _ (spelling_mode_letter r.low r.high low high).live l)

  module _ (k : ℕ) (four : k ≡ 4) where
    abbrev OpLetter : Pattern ℕ
    OpLetter = one (index_in op_letters) 0 2

    pub stop_op_letter : {to : ℕ} → Stops OpLetter text at to → Stops (op_tail k) text at to
    unfolding op_tail
    stop_op_letter s = rw (eq-eqb k 4 four) (record { inside = s.inside; read = stop_field OpLetter (λ o. lit (op_rest o) (done o)) _ spelling_op_letter.live s })

    pub op_read : {o to : ℕ} → Reaches OpLetter text at o to → (x : Result (Field ℕ) Stop) → Read (lit (op_rest o) (done o)) text to x → Read (op_tail k) text at x
    unfolding op_tail
    op_read {o} {to} l x =
        rw (eq-eqb k 4 four)
        (through (seq OpLetter (λ o. lit (op_rest o) (done o))) (lit (op_rest o) (done o)) text at to x
        (past_field OpLetter (λ o. lit (op_rest o) (done o)) _ spelling_op_letter.live l))

-- behind operand c of an extension: be= and n=
module _ (text : List ℕ) (at k o : ℕ) (x y z : Operand) (four : k ≡ 4) where
  abbrev CallStands : Pattern Form → ℕ → Type 0
  CallStands f i = parse (from_call k o x y z) (drop at text) ≡ parse f (drop i text)

  abbrev CallHalts : ℕ → Type 0
  CallHalts i = parse (from_call k o x y z) (drop at text) ≡ left (drop i text)

  abbrev BeText : List ℕ
  BeText = 98 ∷ 101 ∷ 61 ∷ []

  abbrev NThen : ℕ → Pattern Form
  NThen be = seq (number decimal_value 1 1048576 10) (λ n. done (form_from (call_kind o be n) x y z))

  abbrev BeThen : Pattern Form
  BeThen = seq (one decimal_value 0 1) (λ be. lit n_key (NThen be))

  from_be : CallStands (lit BeText BeThen) at
  unfolding from_call
  from_be = rw (eq-eqb k 4 four)

  pub stop_be_text : {to : ℕ} → Stops {A = ℕ} (lit BeText (done 0)) text at to → CallHalts to
  stop_be_text s = from_be ∙ stop_lit BeText BeThen s

  module _ {i : ℕ} (at_be : Reaches {A = ℕ} (lit BeText (done 0)) text at 0 i) where
    to_be : CallStands BeThen i
    to_be = from_be ∙ past_lit BeText BeThen at_be

    pub stop_be : {to : ℕ} → Stops (one decimal_value 0 1) text i to → CallHalts to
    stop_be s = to_be ∙ stop_field (one decimal_value 0 1) (λ b. lit n_key (NThen b)) _ spelling_be.live s

    module _ {be j : ℕ} (be_read : Reaches (one decimal_value 0 1) text i be j) where
      to_n_text : CallStands (lit n_key (NThen be)) j
      to_n_text = to_be ∙ past_field (one decimal_value 0 1) (λ b. lit n_key (NThen b)) _ spelling_be.live be_read

      pub stop_n_text : {to : ℕ} → Stops {A = ℕ} (lit n_key (done 0)) text j to → CallHalts to
      stop_n_text s = to_n_text ∙ stop_lit n_key (NThen be) s

      module _ {l : ℕ} (at_n : Reaches {A = ℕ} (lit n_key (done 0)) text j 0 l) where
        to_n : CallStands (NThen be) l
        to_n = to_n_text ∙ past_lit n_key (NThen be) at_n

        pub stop_n : {to : ℕ} → Stops (number decimal_value 1 1048576 10) text l to → CallHalts to
        stop_n s = to_n ∙ stop_field (number decimal_value 1 1048576 10) (λ n. done (form_from (call_kind o be n) x y z)) _ spelling_n.live s

        pub call_read : {n to : ℕ} → Reaches (number decimal_value 1 1048576 10) text l n to
            → parse (from_call k o x y z) (drop at text) ≡ got (form_from (call_kind o be n) x y z) (drop to text)
        unfolding parse
        call_read n_read = to_n ∙ past_field (number decimal_value 1 1048576 10) (λ n. done (form_from (call_kind o be n) x y z)) _ spelling_n.live n_read

-- behind operand c of another kind
pub no_call : (k o : ℕ) (x y z : Operand) (t : List ℕ) → eqb k 4 ≡ false → parse (from_call k o x y z) t ≡ got (form_from (plain_kind k) x y z) t
unfolding from_call parse
no_call k o x y z t e = rw e

-- operand a, and what is behind it
abbrev AThen : ℕ → ℕ → Pattern Form
AThen k o = seq (modes (a_range k)) (λ m. seq (word_field 32) (λ w. from_b k o m w))

-- the fields up to operand a
module _ (text : List ℕ) (from : ℕ) where
  abbrev Stands : Pattern Form → ℕ → Type 0
  Stands f at = parse line_fields (drop from text) ≡ parse f (drop at text)

  abbrev Halts : ℕ → Type 0
  Halts at = parse line_fields (drop from text) ≡ left (drop at text)

  abbrev Kind : Pattern ℕ
  Kind = one (index_in kind_letters) 0 4

  abbrev KindThen : ℕ → Pattern Form
  KindThen k = seq (op_tail k) (λ o. from_a k o)

  pub stop_op_text : {to : ℕ} → Stops {A = ℕ} (lit op_key (done 0)) text from to → Halts to
  unfolding line_fields
  stop_op_text s = stop_lit op_key (seq Kind KindThen) s

  module _ {at : ℕ} (at_op : Reaches {A = ℕ} (lit op_key (done 0)) text from 0 at) where
    to_kind : Stands (seq Kind KindThen) at
    unfolding line_fields
    to_kind = past_lit op_key (seq Kind KindThen) at_op

    pub stop_kind : {to : ℕ} → Stops Kind text at to → Halts to
    stop_kind s = to_kind ∙ stop_field Kind KindThen _ spelling_kind.live s

    module _ {k i : ℕ} (kind : Reaches Kind text at k i) where
      to_op : Stands (KindThen k) i
      to_op = to_kind ∙ past_field Kind KindThen _ spelling_kind.live kind

      pub stop_op : {to : ℕ} → Stops (op_tail k) text i to → Halts to
      stop_op s = to_op ∙ stop_field (op_tail k) (λ o. from_a k o) _ (spelling_op k).live s

      module _ {o j : ℕ} (op : Reaches (op_tail k) text i o j) where
        to_a_text : Stands (lit a_key (AThen k o)) j
        unfolding from_a
        to_a_text = to_op ∙ past_field (op_tail k) (λ o. from_a k o) _ (spelling_op k).live op

        pub stop_a_text : {to : ℕ} → Stops {A = ℕ} (lit a_key (done 0)) text j to → Halts to
        stop_a_text s = to_a_text ∙ stop_lit a_key (AThen k o) s

        pub to_a : {to : ℕ} → Reaches {A = ℕ} (lit a_key (done 0)) text j 0 to → Stands (AThen k o) to
        to_a r = to_a_text ∙ past_lit a_key (AThen k o) r

-- a mode of a range, a word that a byte ends, and what is behind them
module _ (text : List ℕ) (from : ℕ) (r : Span) (end : ℕ) (k : ℕ → ℕ → Pattern Form) (low : r.low ≤ r.high) (high : r.high ≤ 2) (ends : 10 ≤ decimal_value end) where
  abbrev WordThen : ℕ → Pattern Form
  WordThen m = seq (word_field end) (λ w. k m w)

  module _ {at : ℕ} (stands : Stands text from (seq (modes r) WordThen) at) where
    stop_modes : {to : ℕ} → Stops (modes r) text at to → Halts text from to
    stop_modes s = stands ∙ stop_field (modes r) WordThen _ (spelling_modes r low high).live s

    module _ {m i : ℕ} (mode : Reaches (modes r) text at m i) where
      to_word : Stands text from (WordThen m) i
      to_word = stands ∙ past_field (modes r) WordThen _ (spelling_modes r low high).live mode

      stop_word : {to : ℕ} → Stops (word_field end) text i to → Halts text from to
      stop_word s = to_word ∙ stop_field (word_field end) (k m) _ (spelling_word end ends).live s

      past_word : {w to : ℕ} → Reaches (word_field end) text i w to → Stands text from (k m w) to
      past_word s = to_word ∙ past_field (word_field end) (k m) _ (spelling_word end ends).live s

space_ends : 10 ≤ decimal_value 32
unfolding decimal_value
space_ends = omega arith

-- operand a
module _ (text : List ℕ) (from k o : ℕ) {at : ℕ} (stands : Stands text from (AThen k o) at) where
  pub stop_a_mode : {to : ℕ} → Stops (modes (a_range k)) text at to → Halts text from to
  stop_a_mode = stop_modes text from (a_range k) 32 (λ m w. from_b k o m w) (a_fits k).0 (a_fits k).1 space_ends stands

  module _ {m i : ℕ} (mode : Reaches (modes (a_range k)) text at m i) where
    pub stop_a : {to : ℕ} → Stops (word_field 32) text i to → Halts text from to
    stop_a = stop_word text from (a_range k) 32 (λ m w. from_b k o m w) (a_fits k).0 (a_fits k).1 space_ends stands mode

    pub behind_a : {w to : ℕ} → Reaches (word_field 32) text i w to → Stands text from (from_b k o m w) to
    behind_a = past_word text from (a_range k) 32 (λ m w. from_b k o m w) (a_fits k).0 (a_fits k).1 space_ends stands mode

-- operand b
module _ (text : List ℕ) (from k o ma wa : ℕ) where
  abbrev BText : List ℕ
  BText = 98 ∷ 61 ∷ []

  abbrev CFrom : ℕ → ℕ → Pattern Form
  CFrom m w = from_c k o (operand_from ma wa) (operand_from m w)

  abbrev BThen : Pattern Form
  BThen = seq (modes (b_range k ma)) (λ m. seq (word_field 32) (λ w. CFrom m w))

  module _ {at : ℕ} (stands : Stands text from (from_b k o ma wa) at) where
    pub stop_b_text : {to : ℕ} → Stops {A = ℕ} (lit BText (done 0)) text at to → Halts text from to
    unfolding from_b
    stop_b_text s = stands ∙ stop_lit BText BThen s

    module _ {i : ℕ} (at_b : Reaches {A = ℕ} (lit BText (done 0)) text at 0 i) where
      to_b : Stands text from BThen i
      unfolding from_b
      to_b = stands ∙ past_lit BText BThen at_b

      pub stop_b_mode : {to : ℕ} → Stops (modes (b_range k ma)) text i to → Halts text from to
      stop_b_mode = stop_modes text from (b_range k ma) 32 CFrom (b_fits k ma).0 (b_fits k ma).1 space_ends to_b

      module _ {m j : ℕ} (mode : Reaches (modes (b_range k ma)) text i m j) where
        pub stop_b : {to : ℕ} → Stops (word_field 32) text j to → Halts text from to
        stop_b = stop_word text from (b_range k ma) 32 CFrom (b_fits k ma).0 (b_fits k ma).1 space_ends to_b mode

        pub behind_b : {w to : ℕ} → Reaches (word_field 32) text j w to → Stands text from (CFrom m w) to
        behind_b = past_word text from (b_range k ma) 32 CFrom (b_fits k ma).0 (b_fits k ma).1 space_ends to_b mode

-- operand c
module _ (text : List ℕ) (from k o : ℕ) (a b : Operand) where
  abbrev CText : List ℕ
  CText = 99 ∷ 61 ∷ []

  abbrev CallFrom : ℕ → ℕ → Pattern Form
  CallFrom m w = from_call k o a b (operand_from m w)

  abbrev CThen : Pattern Form
  CThen = seq (modes (c_range k)) (λ m. seq (word_field (last_end k)) (λ w. CallFrom m w))

  module _ {at : ℕ} (stands : Stands text from (from_c k o a b) at) where
    pub stop_c_text : {to : ℕ} → Stops {A = ℕ} (lit CText (done 0)) text at to → Halts text from to
    unfolding from_c
    stop_c_text s = stands ∙ stop_lit CText CThen s

    module _ {i : ℕ} (at_c : Reaches {A = ℕ} (lit CText (done 0)) text at 0 i) where
      to_c : Stands text from CThen i
      unfolding from_c
      to_c = stands ∙ past_lit CText CThen at_c

      pub stop_c_mode : {to : ℕ} → Stops (modes (c_range k)) text i to → Halts text from to
      stop_c_mode = stop_modes text from (c_range k) (last_end k) CallFrom (c_fits k).0 (c_fits k).1 (ends_word k) to_c

      module _ {m j : ℕ} (mode : Reaches (modes (c_range k)) text i m j) where
        pub stop_c : {to : ℕ} → Stops (word_field (last_end k)) text j to → Halts text from to
        stop_c = stop_word text from (c_range k) (last_end k) CallFrom (c_fits k).0 (c_fits k).1 (ends_word k) to_c mode

        pub behind_c : {w to : ℕ} → Reaches (word_field (last_end k)) text j w to → Stands text from (CallFrom m w) to
        behind_c = past_word text from (c_range k) (last_end k) CallFrom (c_fits k).0 (c_fits k).1 (ends_word k) to_c mode
