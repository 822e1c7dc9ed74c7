-- Document 01, "Verdicts": the first failure in an order, of rows, words or instructions by number, and of rules in a
-- list.
use Rattle.std.specs.Prelude.{ℕ, zero, suc, Bool, cond, List, [], ◌∷◌}
use Rattle.rules.specs.Given.{Rule}

-- the first number from i on, of n, that fails the test; the number after them where none does
unfoldable pub first : (ℕ → Bool) → ℕ → ℕ → ℕ
first passes i zero = i
first passes i (suc n) = cond (passes i) (first passes (suc i) n) i

-- the number of the first rule that fails, and 0 where all hold
abbrev pub failing : List Rule → ℕ
failing [] = 0
failing (r ∷ rs) = cond r.holds (failing rs) r.number
