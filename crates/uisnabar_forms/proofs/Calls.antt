-- Calls that count into 1,080 zero bytes leave the bytes of a campaign's grid, so that the total law is theirs too.
-- Assumes nothing.
use mathlib.Core.Path.{◌≡◌, refl, sym, ap, ◌∙◌}
use mathlib.Core.Bool.{true, false, cond, ◌&&◌}
use mathlib.Core.List.{List, [], ◌∷◌}
use Prim.Native.Nat.{ℕ, ◌+◌, ◌^◌, ◌≤◌, ◌<◌}
use native.Mathlib.Omega.{arith}
use lib.Dec.{eqb}
use lib.ListN.{length, get_or, replicate, length-replicate}
use borrow.Author.Tests.{eq-eqb}
use Rattle.reply.specs.Reply.{answer_bytes}
use Rattle.word.proofs.Tests.{cases}
use Rattle.answer.specs.Verdicts.{accepted}
use Rattle.rules.specs.Sizes.{Parts, tables_of}
use Rattle.grid_spec.specs.Grid.{fresh, sum_of, limit, count_answer, count_grid}
use Rattle.grid_spec.specs.Campaign.{campaign, taken, rows_in}
use Rattle.grid_spec.proofs.Listed.{at_most_sum}
use Rattle.grid_spec.proofs.Tables.{refusal_keeps, sum_here, length_here, room_was}
use Rattle.grid_bytes.specs.GridBytes.{grid_of, grid_bytes}
use Rattle.grid_bytes.proofs.Inverse.{grid_length, reads_back, fresh_bytes}
use Rattle.uisnabar_forms.specs.CountCall.{count_grid_left}
use Rattle.uisnabar_forms.specs.Called.{called}

module _ (grid : List ℕ) (whole : length grid ≡ 135) (small : sum_of grid ≤ limit) (q : Parts) where
  back : grid_of (grid_bytes grid) ≡ grid
  back = reads_back grid whole (λ k h. omega (arith, at_most_sum grid k))

  -- a call leaves the bytes of the counted grid
  one_call : count_grid_left q (grid_bytes grid) (replicate answer_bytes 0) ≡ grid_bytes (count_grid grid q)
  unfolding count_grid_left
  one_call =
      rw (eq-eqb (length (grid_bytes grid)) 1080 (grid_length grid), back)
      (cases (accepted (count_answer grid q)) (λ e. rw e) (λ e. rw (e, refusal_keeps grid q e)))

  -- whose total is within the limit
  still_small : sum_of (count_grid grid q) ≤ limit
  still_small =
      cases (accepted (count_answer grid q))
      (λ e. omega (arith, sum_here grid q e whole, room_was grid q e))
      (λ e. omega (arith, ap sum_of (refusal_keeps grid q e)))

pub called_from : (grid : List ℕ) → length grid ≡ 135 → sum_of grid ≤ limit → (qs : List Parts) → called (grid_bytes grid) qs ≡ grid_bytes (campaign grid qs)
unfolding campaign
called_from grid whole small [] = refl
called_from grid whole small (q ∷ qs) =
    ap (λ (bytes : List ℕ). called bytes qs) (one_call grid whole small q)
    ∙ called_from (count_grid grid q) (length_here grid q whole) (still_small grid whole small q) qs

pub called_fresh : (qs : List Parts) → called (replicate 1080 0) qs ≡ grid_bytes (campaign fresh qs)
called_fresh qs =
    ap (λ (bytes : List ℕ). called bytes qs) (sym fresh_bytes)
    ∙ called_from fresh (length-replicate {A = ℕ} 135 0) (omega arith) qs

-- whatever the answer buffer holds
pub any_answer : (q : Parts) (grid answer : List ℕ) → length answer ≡ answer_bytes → count_grid_left q grid answer ≡ count_grid_left q grid (replicate answer_bytes 0)
unfolding count_grid_left
any_answer q grid answer e = rw (eq-eqb (length answer) answer_bytes e)
