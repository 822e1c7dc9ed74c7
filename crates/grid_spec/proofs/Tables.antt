-- Document 02, M-100: what one table does to a grid.
-- Assumes nothing.
use mathlib.Core.Path.{◌≡◌, sym, ap, ◌∙◌}
use mathlib.Core.Bool.{true, false, true≢false}
use mathlib.Core.List.{List}
use Prim.Native.Nat.{ℕ, ◌+◌, ◌≤◌, ◌<◌}
use native.Mathlib.Omega.{arith}
use lib.ListN.{length, get_or}
use borrow.Author.Tests.{le-leb, lt-leb}
use Rattle.word.proofs.Tests.{cases, by_order}
use Rattle.answer.specs.Verdicts.{accepted}
use Rattle.answer.specs.Answers.{Accepted, Grid}
use Rattle.answer.proofs.Named.{accepted_is}
use Rattle.rules.specs.Sizes.{Parts, given_of, tables_of}
use Rattle.judge_spec.specs.Judged.{judge_of}
use Rattle.grid_spec.specs.Forms.{rows_of}
use Rattle.grid_spec.specs.Grid.{sum_of, limit, with_rows, count_answer, count_grid}
use Rattle.grid_spec.proofs.Counts.{counted_length, counted_at, counted_sum, accepted_few}

module _ (grid : List ℕ) (q : Parts) where
  -- a refusal changes nothing
  pub refusal_keeps : accepted (count_answer grid q) ≡ false → count_grid grid q ≡ grid
  unfolding count_grid
  refusal_keeps e = rw e

  pub counts_rows : accepted (count_answer grid q) ≡ true → count_grid grid q ≡ with_rows grid (given_of q) (tables_of q)
  unfolding count_grid
  counts_rows e = rw e

  -- a table that the judge refuses gets the judge's answer
  pub judge_refuses : accepted (judge_of q) ≡ false → count_answer grid q ≡ judge_of q
  unfolding count_answer
  judge_refuses e = rw e

  -- one that it accepts is counted exactly where the total stays within the limit
  pub within : accepted (judge_of q) ≡ true → sum_of grid + (tables_of q).height ≤ limit → count_answer grid q ≡ Accepted
  unfolding count_answer
  within e h = rw (e, le-leb (sum_of grid + (tables_of q).height) limit h)

  pub beyond : accepted (judge_of q) ≡ true → limit < sum_of grid + (tables_of q).height → count_answer grid q ≡ Grid
  unfolding count_answer
  beyond e h = rw (e, lt-leb (sum_of grid + (tables_of q).height) limit h)

  -- what is answered ACCEPTED the judge accepts
  pub judged : accepted (count_answer grid q) ≡ true → accepted (judge_of q) ≡ true
  judged e =
      cases (accepted (judge_of q)) (λ t. t) (λ f. absurd (true≢false (sym e ∙ ap accepted (judge_refuses f) ∙ f)))

  -- an acceptance adds its rows, in all and to each counter
  module _ (e : accepted (count_answer grid q) ≡ true) where
    pub counted_here : (k : ℕ) → k < 135
        → get_or (count_grid grid q) k 0 ≡ get_or grid k 0 + rows_of (given_of q) (tables_of q) k (tables_of q).height
    counted_here k h =
        ap (λ (g : List ℕ). get_or g k 0) (counts_rows e) ∙ counted_at (given_of q) (tables_of q) grid k h

    pub sum_here : length grid ≡ 135 → sum_of (count_grid grid q) ≡ sum_of grid + (tables_of q).height
    sum_here whole =
        ap sum_of (counts_rows e)
        ∙ counted_sum (given_of q) (tables_of q) grid whole (accepted_few q (accepted_is (judge_of q) (judged e)))

  -- the grid keeps its length
  pub length_here : length grid ≡ 135 → length (count_grid grid q) ≡ 135
  length_here whole =
      cases (accepted (count_answer grid q))
      (λ e. ap length (counts_rows e) ∙ counted_length (given_of q) (tables_of q) grid)
      (λ e. ap length (refusal_keeps e) ∙ whole)

  -- so the total stays within the limit
  pub room_was : accepted (count_answer grid q) ≡ true → sum_of grid + (tables_of q).height ≤ limit
  room_was e =
      by_order limit (sum_of grid + (tables_of q).height)
      (λ over. absurd (true≢false (sym e ∙ ap accepted (beyond (judged e) over))))
      (λ under. under)
