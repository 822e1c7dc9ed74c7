-- Document 01, "Verdicts", row LABEL: the longest prefix that a text shares with any valid one. Document 02's LISTING
-- has the same place, so it is said of any set of valid texts.
use Rattle.std.specs.Prelude.{ℕ, suc, ◌≤◌, cond, List, [], ◌∷◌, ◌≡◌, eqb}

-- the length of the longest prefix that two texts share
unfoldable pub shared : List ℕ → List ℕ → ℕ
shared [] ys = 0
shared (x ∷ xs) [] = 0
shared (x ∷ xs) (y ∷ ys) = cond (eqb x y) (suc (shared xs ys)) 0

-- one valid text shares that much, and none shares more
pub record Place (Valid : List ℕ → Type 0) (text : List ℕ) (k : ℕ) : Type 0 where
  pub attained : (w : List ℕ) × Valid w × (shared w text ≡ k)
  pub most : (w : List ℕ) → Valid w → shared w text ≤ k
