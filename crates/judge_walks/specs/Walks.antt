-- Inner: what a walk over the rows of a table tells, and the thirty words of an extension row.
-- Declared in src/: Failing (here).
use Rattle.std.specs.Prelude.{◌≡◌, Bool, ◌&&◌, cond, List, ℕ, Option, Some, None, ◌+◌, ◌*◌, eqb, ltb}
use Rattle.rules.specs.Given.{zero?}
use Rattle.judge_spec.specs.First.{first}
use Rattle.inputs.specs.Words.{all_words, eight_words}
use Rattle.judge_walks.specs.declared.Failing.{Failing}

-- for the rule that fails on each of n rows, the first row that has one, and their number where there is none
abbrev pub first_failing_row : (ℕ → ℕ) → ℕ → ℕ
first_failing_row failing n = first (λ r. zero? (failing r)) 0 n

-- that row and its rule, where there is one
abbrev pub failing_at : (ℕ → ℕ) → ℕ → ℕ → Option Failing
failing_at failing n r = cond (ltb r n) (Some (record { row = r; rule = failing r })) None

-- the first row that fails and its rule; and whether there is none and all words are below p
pub record Tested (failing : ℕ → ℕ) (n : ℕ) (bytes : List ℕ) (found : Option Failing) (words : Bool) : Type 0 where
  pub found_is : found ≡ failing_at failing n (first_failing_row failing n)
  pub words_is : words ≡ (eqb (first_failing_row failing n) n && all_words bytes)

-- the thirty words of extension row r are below p
abbrev pub thirty_words : List ℕ → ℕ → Bool
thirty_words ext r =
    eight_words ext (30 * r) && eight_words ext (30 * r + 8) && eight_words ext (30 * r + 16) && eight_words ext (30 * r + 22)
