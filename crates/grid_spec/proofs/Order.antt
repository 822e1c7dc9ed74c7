-- Document 02, M-100: the order of tables does not matter where none meets GRID.
-- Assumes nothing.
use mathlib.Core.Path.{◌≡◌, refl, sym, ap, ◌∙◌, subst}
use mathlib.Core.Bool.{true, false, cond}
use mathlib.Core.List.{List, [], ◌∷◌}
use Prim.Native.Nat.{ℕ, ◌+◌, ◌≤◌, ◌<◌}
use native.Mathlib.Omega.{arith}
use lib.ListN.{length, get_or}
use lib.Seq.{ext_get_or}
use Rattle.word.proofs.Tests.{cases, by_order}
use Rattle.answer.specs.Verdicts.{accepted}
use Rattle.answer.specs.Answers.{Accepted, Grid}
use Rattle.rules.specs.Sizes.{Parts, given_of, tables_of}
use Rattle.judge_spec.specs.Judged.{judge_of}
use Rattle.judge_spec.specs.Refusal.{Says}
use Rattle.judge_spec.proofs.Exactly.{says_exactly}
use Rattle.grid_spec.specs.Forms.{rows_of}
use Rattle.grid_spec.specs.Grid.{sum_of, limit, count_answer, count_grid}
use Rattle.grid_spec.specs.Campaign.{campaign, NoneFull, Reordered, same, swapped, after, again}
use Rattle.grid_spec.proofs.Tables.{refusal_keeps, judge_refuses, within, beyond, counted_here, sum_here, length_here}

-- GRID is never the judge's answer
not_judged : (q : Parts) → judge_of q ≡ Grid → ⊥
unfolding Says
not_judged q e = (says_exactly q Grid).0 e

-- what a table adds where it does not meet GRID, in all and to a counter
abbrev gain : Parts → ℕ
gain q = cond (accepted (judge_of q)) (tables_of q).height 0

abbrev gain_at : Parts → ℕ → ℕ
gain_at q k = cond (accepted (judge_of q)) (rows_of (given_of q) (tables_of q) k (tables_of q).height) 0

-- a table that the judge accepts has room in the grid
abbrev Fits : List ℕ → Parts → Type 0
Fits grid q = accepted (judge_of q) ≡ true → sum_of grid + (tables_of q).height ≤ limit

module _ (grid : List ℕ) (q : Parts) where
  fits : (count_answer grid q ≡ Grid → ⊥) → Fits grid q
  fits not e = by_order limit (sum_of grid + (tables_of q).height) (λ over. absurd (not (beyond grid q e over))) (λ under. under)

  not_full : Fits grid q → count_answer grid q ≡ Grid → ⊥
  not_full fit full =
      cases (accepted (judge_of q))
      (λ e. let z = ap accepted (sym full ∙ within grid q e (fit e)) in absurd (no z))
      (λ e. not_judged q (sym (judge_refuses grid q e) ∙ full))
    where
      no : false ≡ true → ⊥
      no e = let z : ◌≡◌ {A = ℕ} 0 1 = cc in omega arith

  module _ (fit : Fits grid q) where
    refused : accepted (judge_of q) ≡ false → count_grid grid q ≡ grid
    refused e = refusal_keeps grid q (ap accepted (judge_refuses grid q e) ∙ e)

    gained : (k : ℕ) → k < 135 → get_or (count_grid grid q) k 0 ≡ get_or grid k 0 + gain_at q k
    gained k h =
        cases (accepted (judge_of q))
        (λ e. counted_here grid q (ap accepted (within grid q e (fit e))) k h ∙ rw e)
        (λ e. rw (refused e, e) (omega arith))

    gained_sum : length grid ≡ 135 → sum_of (count_grid grid q) ≡ sum_of grid + gain q
    gained_sum whole =
        cases (accepted (judge_of q))
        (λ e. sum_here grid q (ap accepted (within grid q e (fit e))) whole ∙ rw e)
        (λ e. rw (refused e, e) (omega arith))

-- two tables, in both orders
module _ (grid : List ℕ) (whole : length grid ≡ 135) (q r : Parts) (first : Fits grid q) (second : Fits (count_grid grid q) r) where
  sum_after : sum_of (count_grid grid q) ≡ sum_of grid + gain q
  sum_after = gained_sum grid q first whole

  other_first : Fits grid r
  other_first e = omega (arith, second e, sum_after)

  other_second : Fits (count_grid grid r) q
  other_second e =
      let sum-other = gained_sum grid r other_first whole in
      cases (accepted (judge_of r))
      (λ t.
      let one : gain q ≡ (tables_of q).height = rw e in
      let two : gain r ≡ (tables_of r).height = rw t in
      omega (arith, second t, sum_after, sum-other, one, two))
      (λ f. let two : gain r ≡ 0 = rw f in omega (arith, first e, sum-other, two))

  either_way : count_grid (count_grid grid q) r ≡ count_grid (count_grid grid r) q
  either_way =
      let l = length_here (count_grid grid q) r (length_here grid q whole) in
      ext_get_or 0 _ _ (l ∙ sym (length_here (count_grid grid r) q (length_here grid r whole)))
      (λ k h.
      let inside : k < 135 = omega (arith, l) in
      omega (
        arith,
        gained (count_grid grid q) r second k inside,
        gained grid q first k inside,
        gained (count_grid grid r) q other_second k inside,
        gained grid r other_first k inside,
      ))

pub any_order : (grid : List ℕ) → length grid ≡ 135 → (qs rs : List Parts) → Reordered qs rs → NoneFull grid qs
    → NoneFull grid rs × (campaign grid qs ≡ campaign grid rs)
unfolding NoneFull campaign
any_order grid whole qs rs (same _) none = (none, refl)
any_order grid whole _ _ (swapped q r qs) (a, (b, none)) =
    let first = fits grid q a in
    let second = fits (count_grid grid q) r b in
    let here = either_way grid whole q r first second in (
      (
        not_full grid r (other_first grid whole q r first second),
        (not_full (count_grid grid r) q (other_second grid whole q r first second), subst (λ (g : List ℕ). NoneFull g qs) here none),
      ),
      ap (λ (g : List ℕ). campaign g qs) here,
    )
any_order grid whole _ _ (after q qs rs again-so) (a, none) =
    let (none_so, same_grid) = any_order (count_grid grid q) (length_here grid q whole) qs rs again-so none in
    ((a, none_so), same_grid)
any_order grid whole _ _ (again qs rs ss one two) none =
    let (none-one, same-one) = any_order grid whole qs rs one none in
    let (none-two, same-two) = any_order grid whole rs ss two none-one in
    (none-two, same-one ∙ same-two)
