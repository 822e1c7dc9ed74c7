-- The cells one by one: the state after each, the list of those drawn so far, a cell of it, and all 32.
-- Assumes nothing.
use mathlib.Core.Path.{◌≡◌, refl, ◌∙◌}
use mathlib.Core.List.{List, [], ◌∷◌}
use mathlib.Core.Logic.{⊎_elim}
use Prim.Native.Nat.{ℕ, zero, suc, ◌+◌, ◌/◌, ◌%◌, ◌^◌, ◌<◌}
use native.Mathlib.Nat.{not-suc-le-zero, le_of_suc-le-suc, eq-or-lt_of_le}
use native.Mathlib.Numerals.{add-one}
use native.Mathlib.Omega.{arith}
use lib.ListN.{length, take, get_or, set, get_or-append}
use lib.Seq.{take-suc-set, get_or_at}
use Rattle.word.specs.Word.{p}
use Rattle.word.specs.Bytes.{concatenated}
use Rattle.word.proofs.Concatenated.{parts_length}
use Rattle.draw.specs.declared.Generator.{Generator}
use Rattle.maker_draws.specs.Drawn.{state_after, after_cell, after_cells, draws_of, cells_drawn, begun_of}

module _ (version seed : ℕ) where
  pub after_cell_lem : (k : ℕ) → after_cells version seed (k + 1) ≡ after_cell version (after_cells version seed k)
  unfolding after_cells
  after_cell_lem k = rw (add-one k)

  pub cell_drawn : (k : ℕ) → after_cell version (after_cells version seed k) / 2 ^ 32 % p ≡ (draws_of version seed).cell k
  unfolding after_cells
  cell_drawn k = refl

  -- one cell more
  pub stored : (cells : List ℕ) (k : ℕ) → k < length cells → take k cells ≡ cells_drawn version seed k
      → take (k + 1) (set cells k ((draws_of version seed).cell k)) ≡ cells_drawn version seed (k + 1)
  unfolding concatenated
  stored cells k h front = rw (add-one k, take-suc-set cells k ((draws_of version seed).cell k) h, front)

  pub cells_length : (k : ℕ) → length (cells_drawn version seed k) ≡ k
  cells_length k = parts_length (λ j. (draws_of version seed).cell j ∷ []) 1 (λ j. refl) k ∙ omega arith

  pub cell_at : (n k : ℕ) → k < n → get_or (cells_drawn version seed n) k 0 ≡ (draws_of version seed).cell k
  unfolding concatenated
  cell_at zero k h = absurd (not-suc-le-zero h)
  cell_at (suc n) k h =
      ⊎_elim
      (λ (e : k ≡ n). rw e (get_or_at (cells_drawn version seed n) ((draws_of version seed).cell n) [] 0 n (cells_length n)))
      (λ (l : k < n). get_or-append (cells_drawn version seed n) ((draws_of version seed).cell n ∷ []) 0 k (rw (cells_length n) l) ∙ cell_at n k l)
      (eq-or-lt_of_le (le_of_suc-le-suc h))

  -- what `begin` gives
  module _ (cells : List ℕ) (is : cells ≡ (begun_of version seed).cells) where
    pub begun_long : length cells ≡ 32
    begun_long = rw is (cells_length 32)

    pub begun_cell : (k : ℕ) → k < 32 → get_or cells k 0 ≡ (draws_of version seed).cell k
    begun_cell = rw is (cell_at 32)

  pub begun_state : (g : Generator) → g ≡ (begun_of version seed).next → g.state ≡ state_after (after_cells version seed 32) 0
  unfolding state_after
  begun_state g is = rw is
