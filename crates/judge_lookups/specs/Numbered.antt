-- Inner: rules under their numbers, in the order in which they are asked.
use Rattle.std.specs.Prelude.{ℕ, Bool, cond, List, [], ◌∷◌}

-- the number of the first that does not hold, and else what comes after them
abbrev pub first_failing : List (ℕ × Bool) → ℕ → ℕ
first_failing [] after = after
first_failing (rule ∷ rules) after = cond rule.1 (first_failing rules after) rule.0
