-- The finds of an accepted table, as they stand in a buffer: every range check, in row order, and nothing else.
-- Assumes nothing.
use mathlib.Core.Path.{◌≡◌, ◌∙◌}
use mathlib.Core.Bool.{true}
use mathlib.Core.List.{List, ◌++◌}
use Prim.Native.Nat.{ℕ, ◌+◌, ◌-◌, ◌<◌}
use native.Mathlib.Omega.{arith}
use lib.ListN.{length}
use Rattle.word.proofs.Tests.{by_order}
use Rattle.answer.specs.Answers.{Accepted}
use Rattle.rules.specs.Given.{Given, Tables}
use Rattle.rules.specs.Sizes.{Parts, given_of, tables_of}
use Rattle.judge_spec.specs.Judged.{judge_of}
use Rattle.judge_spec.proofs.Exactly.{accepted_satisfies}
use Rattle.judge_spec.proofs.Lengths.{whole}
use Rattle.range_spec.specs.Finds.{found_at, bound_at, number_below, first_rows, all_finds, finds_number}
use Rattle.range_law.specs.Ranges.{IsRangeCheck, row_in, bound_in, Lists}
use Rattle.range_law.proofs.Found.{found_check, check_found}
use Rattle.range_finds.proofs.All.{bound_small}
use Rattle.range_finds.proofs.Written.{number_grows, number_next, stands, place}

module _ (q : Parts) where
  abbrev g : Given
  g = given_of q

  abbrev t : Tables
  t = tables_of q

  -- the finds before row r, and so the place of row r's
  abbrev place_of : ℕ → ℕ
  place_of r = number_below g t r

  -- the finds of an accepted table, before any other bytes
  module _ (e : judge_of q ≡ Accepted) (rest : List ℕ) where
    abbrev finds : List ℕ
    finds = all_finds g t ++ rest

    at_row : (r : ℕ) → r < first_rows t → found_at g t r ≡ true
        → (row_in finds (place_of r) ≡ r) × (bound_in finds (place_of r) ≡ bound_at g t r)
    unfolding all_finds
    at_row r h is =
        let high = (whole (length q.exec) 32 25 (accepted_satisfies q e).exec_size).number.most in
        stands (found_at g t) (bound_at g t) (first_rows t) r rest h is (omega arith) (bound_small q e r (omega arith))

    -- place k is some row's
    row_at : (k : ℕ) → k < finds_number g t
        → (r : ℕ) × (r < first_rows t) × (found_at g t r ≡ true) × (place_of r ≡ k) × (row_in finds k ≡ r) × (bound_in finds k ≡ bound_at g t r)
    unfolding finds_number
    row_at k h =
        let (r, inside, is, at) = place (found_at g t) (bound_at g t) (first_rows t) k h in
        let (row, bound) = at_row r inside is in
        (r, inside, is, at, rw at at row, rw at at bound)

    only_checks : (k : ℕ) → k < finds_number g t → IsRangeCheck q (row_in finds k) (bound_in finds k)
    only_checks k h =
        let (r, inside, is, at, row, bound) = row_at k h in
        rw (row, bound) (found_check q e r (omega arith) is)

    rows_ascend : (k l : ℕ) → k < l → l < finds_number g t → row_in finds k < row_in finds l
    rows_ascend k l below h =
        let (r, inside, is, at, row, bound) = row_at k (omega arith) in
        let (s, inside-s, is-s, at-s, row-s, bound-s) = row_at l h in
        rw (row, row-s) (by_order r s (λ less. less) (λ not. absurd (omega (arith, number_grows (found_at g t) (bound_at g t) s r not))))

    every_check : (r bound : ℕ) → IsRangeCheck q r bound
        → (k : ℕ) × (k < finds_number g t) × (row_in finds k ≡ r) × (bound_in finds k ≡ bound)
    unfolding finds_number
    every_check r bound c =
        let (is, bound-is) = check_found q e r bound c in
        let inside = c.2.inside in
        let (row, own) = at_row r (omega arith) is in (
          place_of r,
          omega (arith, number_next (found_at g t) (bound_at g t) r is, number_grows (found_at g t) (bound_at g t) (r + 1) (first_rows t) (omega arith)),
          row,
          own ∙ bound-is,
        )

    pub all_listed : Lists q (finds_number g t) finds
    all_listed = record { nothing_else = only_checks; in_order = rows_ascend; every = every_check }
