-- A pattern read field by field: behind each field, the rest of the pattern is read from the field's end on.
-- Assumes nothing.
use Prim.Native.Nat.{ℕ}
use mathlib.Core.Bool.{false}
use mathlib.Core.List.{List}
use mathlib.Core.Path.{◌≡◌, ◌∙◌, ap}
use lib.ListN.{drop}
use Rattle.text_patterns.specs.Pattern.{Pattern, done, lit, seq, Live, left, parse, onto}
use Rattle.text_patterns.proofs.Parsing.{parse_seq, parse_lit_then, parse_kind}
use Rattle.text_patterns.proofs.Joined.{spelling_done, spelling_lit}
use Rattle.text_fields.specs.Field.{Reaches, Stops}

module _ {A : Type 0} {text : List ℕ} {at to : ℕ} where
  -- fixed bytes, and then a pattern
  pub past_lit : (w : List ℕ) (f : Pattern A) → Reaches {A = ℕ} (lit w (done 0)) text at 0 to → parse (lit w f) (drop at text) ≡ parse f (drop to text)
  past_lit w f r = parse_lit_then {A = ℕ} 0 f w (drop at text) ∙ ap (onto (λ u. parse f)) r.read

  pub stop_lit : (w : List ℕ) (f : Pattern A) → Stops {A = ℕ} (lit w (done 0)) text at to → parse (lit w f) (drop at text) ≡ left (drop to text)
  stop_lit w f r = parse_lit_then {A = ℕ} 0 f w (drop at text) ∙ ap (onto (λ u. parse f)) r.read

  -- a field, and then a pattern that may depend on its value
  module _ {B : Type 0} (f : Pattern B) (k : B → Pattern A) (P : B → Type 0) (live : Live false P f) where
    pub past_field : {v : B} → Reaches f text at v to → parse (seq f k) (drop at text) ≡ parse (k v) (drop to text)
    past_field r = parse_seq P k f (drop at text) live ∙ ap (onto (λ v. parse (k v))) r.read

    pub stop_field : Stops f text at to → parse (seq f k) (drop at text) ≡ left (drop to text)
    stop_field r = parse_seq P k f (drop at text) live ∙ ap (onto (λ v. parse (k v))) r.read

-- what fixed bytes stand for
pub name_value : {A : Type 0} (w text : List ℕ) (at to : ℕ) (x v : A) → Reaches (lit w (done x)) text at v to → x ≡ v
name_value w text at to x v r = parse_kind false (λ a. x ≡ a) (lit w (done x)) (drop at text) v (drop to text) (spelling_lit w (spelling_done x)).live r.read
