-- Document 02, M-108, for C: what a call that finds range checks returns, and every byte it leaves.
use Rattle.std.specs.Prelude.{ℕ, List, length}
use Rattle.rules.specs.Sizes.{Parts}
use Rattle.reply.specs.Told.{told_returned, told_number, told_answer, told_buffer}
use Rattle.range_spec.specs.Finder.{ranges_answer, ranges_found, finds_left}

module _ (q : Parts) (finds found answer : List ℕ) where
  unfoldable pub ranges_returned : ℕ
  ranges_returned = told_returned found answer (ranges_answer q (length finds))

  unfoldable pub ranges_finds_left : List ℕ
  ranges_finds_left = told_buffer found answer (finds_left q finds) finds

  -- the number of finds, 0 on refusal
  unfoldable pub ranges_found_left : List ℕ
  ranges_found_left = told_number found answer (ranges_found q (length finds))

  unfoldable pub ranges_answer_left : List ℕ
  ranges_answer_left = told_answer found answer (ranges_answer q (length finds))
