-- Inner: the drawn cells as they are handed on, and the eight words that are put into a slot.
use Rattle.std.specs.Prelude.{List, [], ◌∷◌, ℕ, get_or}

abbrev pub cell_in : List ℕ → ℕ → ℕ
cell_in cells k = get_or cells k 0

abbrev pub eight : List ℕ → List ℕ
eight l = cell_in l 0 ∷ cell_in l 1 ∷ cell_in l 2 ∷ cell_in l 3 ∷ cell_in l 4 ∷ cell_in l 5 ∷ cell_in l 6 ∷ cell_in l 7 ∷ []
