-- Document 02, M-100: tables counted into one grid, one after the other.
use Rattle.std.specs.Prelude.{ℕ, ◌+◌, ◌≡◌, cond, List, [], ◌∷◌}
use Rattle.answer.specs.Verdicts.{accepted}
use Rattle.answer.specs.Answers.{Grid}
use Rattle.rules.specs.Sizes.{Parts, given_of, tables_of}
use Rattle.grid_spec.specs.Forms.{rows_of}
use Rattle.grid_spec.specs.Grid.{count_answer, count_grid}

-- the grid after all of them
unfoldable pub campaign : List ℕ → List Parts → List ℕ
campaign grid [] = grid
campaign grid (q ∷ qs) = campaign (count_grid grid q) qs

-- those answered ACCEPTED
unfoldable pub taken : List ℕ → List Parts → List Parts
taken grid [] = []
taken grid (q ∷ qs) = cond (accepted (count_answer grid q)) (q ∷ taken (count_grid grid q) qs) (taken (count_grid grid q) qs)

-- the rows of some tables, in all and of counter k's form
abbrev pub rows_in : List Parts → ℕ
rows_in [] = 0
rows_in (q ∷ qs) = (tables_of q).height + rows_in qs

abbrev pub form_rows_in : ℕ → List Parts → ℕ
form_rows_in k [] = 0
form_rows_in k (q ∷ qs) = rows_of (given_of q) (tables_of q) k (tables_of q).height + form_rows_in k qs

-- none of them meets GRID
unfoldable pub NoneFull : List ℕ → List Parts → Type 0
NoneFull grid [] = Unit
NoneFull grid (q ∷ qs) = (count_answer grid q ≡ Grid → ⊥) × NoneFull (count_grid grid q) qs

-- the same tables in another order: two that are neighbours change places, as often as it takes
pub data Reordered : List Parts → List Parts → Type 1 where
  same : (qs : List Parts) → Reordered qs qs
  swapped : (q r : Parts) (qs : List Parts) → Reordered (q ∷ r ∷ qs) (r ∷ q ∷ qs)
  after : (q : Parts) (qs rs : List Parts) → Reordered qs rs → Reordered (q ∷ qs) (q ∷ rs)
  again : (qs rs ss : List Parts) → Reordered qs rs → Reordered rs ss → Reordered qs ss
