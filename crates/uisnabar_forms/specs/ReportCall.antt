-- Document 02, M-100, for C: what a call that reports returns, and every byte it leaves. ANSWER comes first, for each
-- buffer of fixed length, and writes nothing.
use Rattle.std.specs.Prelude.{ℕ, Bool, cond, ◌&&◌, List, eqb, length}
use Rattle.rows.specs.Rows.{put_row}
use Rattle.answer.specs.Answers.{Answer, Buffer}
use Rattle.long.specs.Long.{long_bytes}
use Rattle.reply.specs.Reply.{answer_bytes, verdict_of, answer_words}
use Rattle.grid_spec.specs.Report.{report_answer, report_length, reported_in}
use Rattle.grid_bytes.specs.GridBytes.{grid_of}

module _ (grid text written answer : List ℕ) where
  -- 1,080 bytes, 8 and 24
  abbrev pub report_fits : Bool
  report_fits = eqb (length grid) 1080 && eqb (length written) 8 && eqb (length answer) answer_bytes

  abbrev pub report_told : Answer
  report_told = report_answer (grid_of grid) (length text)

  unfoldable pub report_returned : ℕ
  report_returned = cond report_fits (verdict_of report_told) (verdict_of Buffer)

  unfoldable pub report_text_left : List ℕ
  report_text_left = cond report_fits (reported_in (grid_of grid) text) text

  -- the bytes written, 0 on refusal
  unfoldable pub report_written_left : List ℕ
  report_written_left = cond report_fits (long_bytes (report_length (grid_of grid) (length text))) written

  unfoldable pub report_answer_left : List ℕ
  report_answer_left = cond report_fits (put_row answer answer_bytes (answer_words report_told)) answer
