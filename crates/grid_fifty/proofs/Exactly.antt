-- Document 02, M-100: exactly the possible counters can ever be nonzero, whatever tables are counted from a fresh grid.
-- Assumes nothing.
use mathlib.Core.Path.{◌≡◌, refl, ap, ◌∙◌}
use mathlib.Core.Logic.{◌↔◌}
use mathlib.Core.Bool.{true, false}
use mathlib.Core.List.{List, [], ◌∷◌}
use Prim.Native.Nat.{ℕ, ◌<◌}
use native.Mathlib.Omega.{arith}
use lib.ListN.{length, get_or}
use Rattle.word.proofs.Tests.{cases, by_test}
use Rattle.answer.specs.Verdicts.{accepted}
use Rattle.answer.specs.Answers.{Accepted}
use Rattle.answer.proofs.Named.{accepted_is}
use Rattle.rules.specs.Sizes.{Parts, tables_of}
use Rattle.judge_spec.specs.Judged.{judge_of}
use Rattle.judge_spec.proofs.Exactly.{accepted_satisfies}
use Rattle.judge_spec.proofs.Lengths.{whole}
use Rattle.grid_spec.specs.Grid.{fresh, count_answer, count_grid}
use Rattle.grid_spec.specs.Campaign.{campaign, taken, form_rows_in}
use Rattle.grid_spec.specs.Possible.{possible_at}
use Rattle.grid_spec.proofs.Tables.{within, judged, counted_here}
use Rattle.grid_spec.proofs.Campaign.{fresh_counter}
use Rattle.grid_fifty.proofs.Reached.{reached}
use Rattle.grid_fifty.proofs.Only.{rows_possible}

-- a fresh grid takes every table that the judge accepts: no table has 2^63 rows
fresh_takes : (q : Parts) → judge_of q ≡ Accepted → accepted (count_answer fresh q) ≡ true
fresh_takes q e =
    let most = (whole (length q.exec) 32 25 (accepted_satisfies q e).exec_size).number.most in
    ap accepted (within fresh q (ap accepted e) (omega arith))

-- a counter that isn't possible counts no row of the tables answered ACCEPTED
none_taken : (k : ℕ) → possible_at k ≡ false → (grid : List ℕ) (qs : List Parts) → form_rows_in k (taken grid qs) ≡ 0
unfolding taken
none_taken k not grid [] = refl
none_taken k not grid (q ∷ qs) =
    by_test (λ (l : List Parts). form_rows_in k l ≡ 0) (accepted (count_answer grid q))
    (λ e.
    let here = rows_possible q (accepted_is (judge_of q) (judged grid q e)) k not (tables_of q).height (omega arith) in
    omega (arith, none_taken k not (count_grid grid q) qs))
    (λ _. none_taken k not (count_grid grid q) qs)

module _ (k : ℕ) (small : k < 135) where
  -- it is nonzero after some tables
  abbrev Counts : Type 0
  Counts = (qs : List Parts) × (get_or (campaign fresh qs) k 0 ≡ 0 → ⊥)

  -- where a form is possible the table that reaches it is counted, and a counter that counts a row is possible
  possible_counts : possible_at k ≡ true → Counts
  unfolding campaign
  possible_counts able =
      let (q, accepts, some) = reached k small able in
      (q ∷ [], λ none. some (omega (arith, counted_here fresh q (fresh_takes q accepts) k small)))

  counts_possible : Counts → possible_at k ≡ true
  counts_possible (qs, some) =
      cases (possible_at k) (λ able. able) (λ not. absurd (some (fresh_counter qs k small ∙ none_taken k not fresh qs)))

-- exactly the possible counters can be nonzero
pub exactly : (k : ℕ) → k < 135 → (possible_at k ≡ true) ↔ ((qs : List Parts) × (get_or (campaign fresh qs) k 0 ≡ 0 → ⊥))
exactly k small = (possible_counts k small, counts_possible k small)
