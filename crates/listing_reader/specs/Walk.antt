-- Inner: how the reader's walk over the lines ends: with all of the text read, or with bytes left from which on it is
-- no listing.
-- Declared in src/: Form (form); Stop (text_fields).
use Rattle.std.specs.Prelude.{ℕ, ◌*◌, ◌≤◌, List, [], ◌∷◌, ◌++◌, ◌≡◌, length, drop, Result, MatchResult}
use Rattle.form.specs.declared.Form.{Form}
use Rattle.text_patterns.specs.Pattern.{Parsed, got, left, parse}
use Rattle.listing_forms.specs.Forms.{program_of}
use Rattle.listing_line.specs.Line.{listing_lines}
use Rattle.text_fields.specs.declared.Stop.{Stop}

pub data End : Type 0 where
  whole : List Form → End
  cut : List ℕ → End

abbrev pub end_from : Parsed (List Form) → End
end_from (got fs []) = whole fs
end_from (got fs (b ∷ rest)) = cut (b ∷ rest)
end_from (left rest) = cut rest

-- the end of a text's reading
abbrev pub ending : List ℕ → End
ending text = end_from (parse listing_lines text)

-- the forms of a listing's lines, as many as a walk counted
pub record Wholly (text : List ℕ) (lines : ℕ) : Type 0 where
  pub forms : List Form
  pub many : length forms ≡ lines
  pub ends : ending text ≡ whole forms

-- the program of a listing's forms, in front of what stood in a buffer
abbrev pub filled_by : End → List ℕ → List ℕ
filled_by (whole forms) buffer = program_of forms ++ drop (48 * length forms) buffer
filled_by (cut rest) buffer = buffer

-- what the walk promises: how many lines there are, or where the text leaves every listing
abbrev pub WalkRead : List ℕ → Result ℕ Stop → Type 0
WalkRead text r = MatchResult r (Wholly text) (λ s. (s.at ≤ length text) × (ending text ≡ cut (drop s.at text)))
