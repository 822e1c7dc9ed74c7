-- The finder's answer by its two tests, and what stands in the buffer and is given beside it.
-- Assumes nothing.
use mathlib.Core.Path.{◌≡◌}
use mathlib.Core.Bool.{true, false}
use mathlib.Core.List.{List, ◌++◌}
use Prim.Native.Nat.{ℕ, ◌*◌, ◌≤◌, ◌<◌}
use lib.ListN.{length, drop}
use borrow.Author.Tests.{le-leb, lt-leb}
use Rattle.answer.specs.Verdicts.{accepted}
use Rattle.answer.specs.Answers.{Accepted, ListShort}
use Rattle.rules.specs.Sizes.{Parts, given_of, tables_of}
use Rattle.judge_spec.specs.Judged.{judge_of}
use Rattle.range_spec.specs.Finds.{all_finds}
use Rattle.range_spec.specs.Finder.{finds_number_in, ranges_answer, ranges_found, finds_left}

module _ (q : Parts) where
  pub judge_refuses : (room : ℕ) → accepted (judge_of q) ≡ false → ranges_answer q room ≡ judge_of q
  unfolding ranges_answer
  judge_refuses room f = rw f

  module _ (yes : accepted (judge_of q) ≡ true) (room : ℕ) where
    pub fits : 8 * finds_number_in q ≤ room → ranges_answer q room ≡ Accepted
    unfolding ranges_answer
    fits h = rw (yes, le-leb (8 * finds_number_in q) room h)

    pub too_short : room < 8 * finds_number_in q → ranges_answer q room ≡ ListShort (finds_number_in q)
    unfolding ranges_answer
    too_short h = rw (yes, lt-leb (8 * finds_number_in q) room h)

  pub number_given : (room : ℕ) → ranges_answer q room ≡ Accepted → ranges_found q room ≡ finds_number_in q
  unfolding ranges_found
  number_given room e = rw e

  pub finds_given : (buffer : List ℕ) → ranges_answer q (length buffer) ≡ Accepted
      → finds_left q buffer ≡ all_finds (given_of q) (tables_of q) ++ drop (8 * finds_number_in q) buffer
  unfolding finds_left
  finds_given buffer e = rw e

  pub nothing_given : (buffer : List ℕ) → accepted (ranges_answer q (length buffer)) ≡ false
      → (ranges_found q (length buffer) ≡ 0) × (finds_left q buffer ≡ buffer)
  unfolding ranges_found finds_left
  nothing_given buffer f = (rw f, rw f)
