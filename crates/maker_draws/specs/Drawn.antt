-- Document 01, "Draws, recipe, label", and document 02, M-103: the maker's draws. First 32 cells, for which versions
-- other than 1 throw some draws away, then three draws for each instruction.
-- Declared in src/: Generator (draw); KindDrawn (here).
use Rattle.std.specs.Prelude.{Bool, cond, ◌||◌, List, [], ◌∷◌, ℕ, zero, suc, ◌+◌, ◌*◌, ◌/◌, ◌%◌, ◌^◌, ltb, eqb}
use Rattle.word.specs.Word.{p}
use Rattle.word.specs.Bytes.{concatenated}
use Rattle.draw.specs.Draw.{advance}
use Rattle.draw.specs.declared.Generator.{Generator}
use Rattle.maker_draws.specs.declared.KindDrawn.{KindDrawn}
use Rattle.maker_draws.specs.declared.KindDrawn.TheVariants.{Add, Mul, Deref, Jump, Extension}

-- what is drawn for a program: cells 0 to 31, and kind, a and c of instruction i
pub record Draws : Type 0 where
  pub cell : ℕ → ℕ
  pub kind : ℕ → ℕ
  pub a : ℕ → ℕ
  pub c : ℕ → ℕ

-- the state after k draws
unfoldable pub state_after : ℕ → ℕ → ℕ
state_after s zero = s
state_after s (suc k) = advance (state_after s k)

-- draw k, numbered from 0
abbrev pub drawn : ℕ → ℕ → ℕ
drawn s k = state_after s (suc k) / 2 ^ 32

-- whether a version keeps the number drawn for a cell: version 1 keeps each, later ones those below 2·p
abbrev pub kept : ℕ → ℕ → Bool
kept version number = eqb version 1 || ltb number (2 * p)

-- from the state s after a cell's draw: a number that is not kept is drawn again, at most k times; the state after the
-- one that is taken
unfoldable pub again : ℕ → ℕ → ℕ → ℕ
again version zero s = s
again version (suc k) s = cond (kept version (s / 2 ^ 32)) s (again version k (advance s))

-- the state after a cell: drawn again at most 8 times, so the ninth number is taken whatever it is
abbrev pub after_cell : ℕ → ℕ → ℕ
after_cell version s = again version 8 (advance s)

-- the state after k cells
unfoldable pub after_cells : ℕ → ℕ → ℕ → ℕ
after_cells version seed zero = seed
after_cells version seed (suc k) = after_cell version (after_cells version seed k)

-- cells modulo p; from the state after 32 of them kind modulo 5, a and c modulo 32
abbrev pub draws_of : ℕ → ℕ → Draws
draws_of version seed =
    record {
      cell = λ k. after_cells version seed (suc k) / 2 ^ 32 % p;
      kind = λ i. drawn (after_cells version seed 32) (3 * i) % 5;
      a = λ i. drawn (after_cells version seed 32) (3 * i + 1) % 32;
      c = λ i. drawn (after_cells version seed 32) (3 * i + 2) % 32;
    }

-- the first k cells, as a list
abbrev pub cells_drawn : ℕ → ℕ → ℕ → List ℕ
cells_drawn version seed k = concatenated (λ j. (draws_of version seed).cell j ∷ []) k

-- the cells, beside the generator after them
pub record Begun : Type 0 where
  pub cells : List ℕ
  pub next : Generator

abbrev pub begun_of : ℕ → ℕ → Begun
begun_of version seed = record { cells = cells_drawn version seed 32; next = record { state = after_cells version seed 32 } }

-- an instruction's three draws, beside the generator after them
pub record Three : Type 0 where
  pub kind : ℕ
  pub a : ℕ
  pub c : ℕ
  pub next : Generator

abbrev pub three_of : Generator → Three
three_of g =
    record {
      kind = drawn g.state 0 % 5;
      a = drawn g.state 1 % 32;
      c = drawn g.state 2 % 32;
      next = record { state = state_after g.state 3 };
    }

-- the number that a kind is drawn as
abbrev pub drawn_number : KindDrawn → ℕ
drawn_number Add = 0
drawn_number Mul = 1
drawn_number Deref = 2
drawn_number Jump = 3
drawn_number Extension = 4
