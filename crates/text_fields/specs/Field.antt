-- Inner: what the reader of a field owes: the field's own reading, from a place of the text on.
-- Declared in src/: Field, Stop (here).
use Rattle.std.specs.Prelude.{ℕ, ◌-◌, ◌≤◌, ◌≡◌, List, length, drop, Result, Ok, Err, MatchResult}
use Rattle.text_patterns.specs.Pattern.{Pattern, Parsed, done, lit, got, left, parse}
use Rattle.text_fields.specs.declared.Field.{Field}
use Rattle.text_fields.specs.declared.Stop.{Stop}

-- a value is read, and the bytes from a place on are left
pub record Reaches {A : Type 0} (f : Pattern A) (text : List ℕ) (at : ℕ) (value : A) (to : ℕ) : Type 0 where
  pub inside : to ≤ length text
  pub read : parse f (drop at text) ≡ got value (drop to text)

-- the bytes from a place on are left, and no valid text has them there
pub record Stops {A : Type 0} (f : Pattern A) (text : List ℕ) (at to : ℕ) : Type 0 where
  pub inside : to ≤ length text
  pub read : parse f (drop at text) ≡ left (drop to text)

-- a field is read from a place on
abbrev pub Read : {A : Type 0} → Pattern A → List ℕ → ℕ → Result (Field A) Stop → Type 0
Read f text at r = MatchResult r (λ v. Reaches f text at v.value v.at) (λ s. Stops f text at s.at)

-- fixed bytes are passed from a place on
abbrev pub Passed : List ℕ → List ℕ → ℕ → Result ℕ Stop → Type 0
Passed word text at r = MatchResult r (λ to. Reaches {A = ℕ} (lit word (done 0)) text at 0 to) (λ s. Stops {A = ℕ} (lit word (done 0)) text at s.at)

-- the answer of a reading of a text: the value and the place behind it, or the place where it stops
abbrev pub read_as : {A : Type 0} → List ℕ → Parsed A → Result (Field A) Stop
read_as text (got v rest) = Ok (record { value = v; at = length text - length rest })
read_as text (left rest) = Err (record { at = length text - length rest })

-- of fixed bytes, whose value is not told: the place behind them, or the place where it stops
abbrev pub passed_as : List ℕ → Parsed ℕ → Result ℕ Stop
passed_as text (got v rest) = Ok (length text - length rest)
passed_as text (left rest) = Err (record { at = length text - length rest })
