-- Document 01, "Draws, recipe, label", and document 02, M-103: a recipe's range, and its label byte by byte (ASCII).
-- Declared in src/: Recipe (here).
use Rattle.std.specs.Prelude.{ℕ, zero, suc, ◌+◌, ◌/◌, ◌%◌, ◌^◌, ◌<◌, Bool, true, cond, ◌&&◌, List, [], ◌∷◌, ◌++◌, ◌≡◌, leb, ltb}
use Rattle.lines.specs.Line.{line, line_of}
use Rattle.label.specs.declared.Recipe.{Recipe}

abbrev pub within : ℕ → ℕ → ℕ → Bool
within low high x = leb low x && leb x high

-- versions 1 and 2 are known
abbrev pub newest : ℕ
newest = 2

-- version is 1 or 2, m is 10 to 29 and n is 1 to 124
abbrev pub ranged : Recipe → Bool
ranged r = within 1 newest r.version && within 10 29 r.m && within 1 124 r.n

-- a recipe: a seed of 64 bits; version, m and n in their ranges
pub record InRange (r : Recipe) : Type 0 where
  pub bits : r.seed < 2 ^ 64
  pub ranges : ranged r ≡ true

-- what a refused label reads as
abbrev pub no_recipe : Recipe
no_recipe = record { version = 0; seed = 0; m = 0; n = 0 }

-- 0 to 9, then a to f
abbrev pub hex_digit : ℕ → ℕ
hex_digit d = cond (ltb d 10) (48 + d) (87 + d)

-- the lowest k hex digits of x, highest first
unfoldable pub hex_digits : ℕ → ℕ → List ℕ
hex_digits zero x = []
hex_digits (suc k) x = hex_digits k (x / 16) ++ (hex_digit (x % 16) ∷ [])

-- v=, seed=, m= and n=
abbrev pub version_text : List ℕ
version_text = 118 ∷ 61 ∷ []

abbrev pub seed_text : List ℕ
seed_text = 115 ∷ 101 ∷ 101 ∷ 100 ∷ 61 ∷ []

abbrev pub m_text : List ℕ
m_text = 109 ∷ 61 ∷ []

abbrev pub n_text : List ℕ
n_text = 110 ∷ 61 ∷ []

-- the four lines
unfoldable pub label_of : Recipe → List ℕ
label_of r =
    line_of version_text r.version ++ line (seed_text ++ hex_digits 16 r.seed) ++ line_of m_text r.m ++ line_of n_text r.n
