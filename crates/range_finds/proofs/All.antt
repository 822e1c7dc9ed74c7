-- The finds of a table as bytes: 8 for each, when they are all, how many there may be; and a bound fits in 32 bits.
-- Assumes nothing.
use mathlib.Core.Path.{◌≡◌}
use Prim.Native.Nat.{ℕ, ◌+◌, ◌*◌, ◌≤◌, ◌<◌, ◌^◌}
use native.Mathlib.Omega.{arith}
use lib.ListN.{length}
use Rattle.form.specs.Instruction.{instruction_at}
use Rattle.answer.specs.Answers.{Accepted}
use Rattle.rules.specs.Given.{Given, Tables}
use Rattle.rules.specs.Sizes.{Parts, given_of, tables_of}
use Rattle.rules.proofs.Totals.{total_most}
use Rattle.judge_spec.specs.Judged.{judge_of}
use Rattle.judge_spec.proofs.Exactly.{accepted_satisfies}
use Rattle.judge_spec.proofs.AcceptedRows.{pc_in_program}
use Rattle.range_spec.specs.Finds.{found_at, bound_at, finds_below, first_rows, all_finds, finds_number}
use Rattle.range_finds.proofs.Written.{eight_each, number_grows, same_bytes}

module _ (g : Given) (t : Tables) where
  -- 8 bytes a find
  pub finds_length : length (all_finds g t) ≡ 8 * finds_number g t
  unfolding all_finds finds_number
  finds_length = eight_each (found_at g t) (bound_at g t) (first_rows t)

  -- where there are as many below a row as in all, these are all
  pub finds_all : (r : ℕ) → r ≤ first_rows t → 8 * finds_number g t ≤ length (finds_below g t r) → finds_below g t r ≡ all_finds g t
  unfolding all_finds finds_number
  finds_all r h enough =
      same_bytes (found_at g t) (bound_at g t) r (first_rows t) h
      (omega (arith, eight_each (found_at g t) (bound_at g t) r, number_grows (found_at g t) (bound_at g t) r (first_rows t) h))

  -- no more of them than rows that two more follow
  pub finds_most : finds_number g t ≤ first_rows t
  unfolding finds_number
  finds_most = total_most (found_at g t) (first_rows t)

-- in an accepted table B is a word
pub bound_small : (q : Parts) → judge_of q ≡ Accepted → (r : ℕ) → r + 2 < (tables_of q).height → bound_at (given_of q) (tables_of q) r < 2 ^ 32
unfolding bound_at instruction_at
bound_small q e r h =
    let pc = ((tables_of q).exec (r + 1)).pc in
    let inside = pc_in_program q e (r + 1) (omega arith) in
    let place : 4 * (12 * pc + 1) ≡ 48 * pc + 4 = omega arith in
    let word = rw place at ((accepted_satisfies q e).program_words (12 * pc + 1) (omega arith)) in
    omega arith
