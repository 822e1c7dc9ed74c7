-- Document 02, M-100: after any list of tables the total is the rows of those answered ACCEPTED, and each counter is
-- the number of those rows that are of its form.
-- Assumes nothing.
use mathlib.Core.Path.{◌≡◌, refl, sym, ap, ◌∙◌}
use mathlib.Core.Bool.{true, false, cond}
use mathlib.Core.List.{List, [], ◌∷◌}
use Prim.Native.Nat.{ℕ, ◌+◌, ◌<◌}
use native.Mathlib.Nat.{zero-add}
use native.Mathlib.Omega.{arith}
use lib.ListN.{length, get_or, get_or-replicate, length-replicate, get_or-eq_default}
use Rattle.word.proofs.Tests.{cases, by_order}
use Rattle.answer.specs.Verdicts.{accepted}
use Rattle.rules.specs.Sizes.{Parts}
use Rattle.grid_spec.specs.Grid.{fresh, sum_of, count_answer, count_grid}
use Rattle.grid_spec.specs.Campaign.{campaign, taken, rows_in, form_rows_in}
use Rattle.grid_spec.proofs.Tables.{refusal_keeps, counted_here, sum_here, length_here}

module _ (grid : List ℕ) (q : Parts) (qs : List Parts) where
  -- the first of them is answered ACCEPTED, or it isn't
  taken_on : accepted (count_answer grid q) ≡ true → taken grid (q ∷ qs) ≡ q ∷ taken (count_grid grid q) qs
  unfolding taken
  taken_on e = rw e

  passed_over : accepted (count_answer grid q) ≡ false → taken grid (q ∷ qs) ≡ taken grid qs
  unfolding taken
  passed_over e = rw (e, refusal_keeps grid q e)

  on : campaign grid (q ∷ qs) ≡ campaign (count_grid grid q) qs
  unfolding campaign
  on = refl

  same_grid : accepted (count_answer grid q) ≡ false → campaign grid (q ∷ qs) ≡ campaign grid qs
  same_grid e = on ∙ ap (λ (g : List ℕ). campaign g qs) (refusal_keeps grid q e)

-- a whole grid, and a list of tables: the total, and a counter
pub total_from : (grid : List ℕ) (qs : List Parts) → length grid ≡ 135 → sum_of (campaign grid qs) ≡ sum_of grid + rows_in (taken grid qs)
unfolding campaign taken
total_from grid [] whole = omega arith
total_from grid (q ∷ qs) whole =
    cases (accepted (count_answer grid q))
    (λ e.
    total_from (count_grid grid q) qs (length_here grid q whole)
    ∙ omega (arith, sum_here grid q e whole, ap rows_in (taken_on grid q qs e)))
    (λ e. ap sum_of (same_grid grid q qs e) ∙ total_from grid qs whole ∙ omega (arith, ap rows_in (passed_over grid q qs e)))

pub counter_from : (grid : List ℕ) (qs : List Parts) (k : ℕ) → k < 135
    → get_or (campaign grid qs) k 0 ≡ get_or grid k 0 + form_rows_in k (taken grid qs)
unfolding campaign taken
counter_from grid [] k h = omega arith
counter_from grid (q ∷ qs) k h =
    cases (accepted (count_answer grid q))
    (λ e.
    counter_from (count_grid grid q) qs k h
    ∙ omega (arith, counted_here grid q e k h, ap (form_rows_in k) (taken_on grid q qs e)))
    (λ e.
    ap (λ (g : List ℕ). get_or g k 0) (same_grid grid q qs e)
    ∙ counter_from grid qs k h
    ∙ omega (arith, ap (form_rows_in k) (passed_over grid q qs e)))

-- the total law, and each counter, since the grid was fresh
pub fresh_total : (qs : List Parts) → sum_of (campaign fresh qs) ≡ rows_in (taken fresh qs)
fresh_total qs = total_from fresh qs (length-replicate {A = ℕ} 135 0) ∙ zero-add (rows_in (taken fresh qs))

pub fresh_counter : (qs : List Parts) (k : ℕ) → k < 135 → get_or (campaign fresh qs) k 0 ≡ form_rows_in k (taken fresh qs)
fresh_counter qs k h = counter_from fresh qs k h ∙ omega (arith, get_or-replicate {A = ℕ} 135 k 0 0 h)

-- every counter of a fresh grid is zero
pub fresh_zero : (k : ℕ) → get_or fresh k 0 ≡ 0
fresh_zero k =
    by_order k 135 (λ inside. get_or-replicate {A = ℕ} 135 k 0 0 inside) (λ past. get_or-eq_default fresh 0 {n = k} past)
