-- Document 02, M-100, for C: what a call that counts returns, and every byte it leaves. ANSWER comes first, for either
-- buffer of fixed length, and writes nothing.
use Rattle.std.specs.Prelude.{ℕ, Bool, cond, ◌&&◌, List, eqb, length}
use Rattle.rows.specs.Rows.{put_row}
use Rattle.answer.specs.Verdicts.{accepted}
use Rattle.answer.specs.Answers.{Answer, Buffer}
use Rattle.rules.specs.Sizes.{Parts}
use Rattle.reply.specs.Reply.{answer_bytes, verdict_of, answer_words}
use Rattle.grid_spec.specs.Grid.{count_answer, count_grid}
use Rattle.grid_bytes.specs.GridBytes.{grid_of, grid_bytes}

module _ (q : Parts) (grid answer : List ℕ) where
  -- 1,080 bytes and 24
  abbrev pub count_fits : Bool
  count_fits = eqb (length grid) 1080 && eqb (length answer) answer_bytes

  abbrev pub count_told : Answer
  count_told = count_answer (grid_of grid) q

  unfoldable pub count_returned : ℕ
  count_returned = cond count_fits (verdict_of count_told) (verdict_of Buffer)

  -- the grid is written on ACCEPTED alone
  unfoldable pub count_grid_left : List ℕ
  count_grid_left = cond (count_fits && accepted count_told) (grid_bytes (count_grid (grid_of grid) q)) grid

  unfoldable pub count_answer_left : List ℕ
  count_answer_left = cond count_fits (put_row answer answer_bytes (answer_words count_told)) answer
