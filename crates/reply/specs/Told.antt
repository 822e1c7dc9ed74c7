-- Document 02's C calls that give a number of 64 bits beside the answer: what they return, and what they leave in the
-- number's 8 bytes, in the answer's 24 and in a third buffer. ANSWER comes first, for each buffer of fixed length, and
-- writes nothing.
use Rattle.std.specs.Prelude.{ℕ, Bool, cond, ◌&&◌, List, eqb, length}
use Rattle.rows.specs.Rows.{put_row}
use Rattle.answer.specs.Answers.{Answer, Buffer}
use Rattle.long.specs.Long.{long_bytes}
use Rattle.reply.specs.Reply.{answer_bytes, verdict_of, answer_words}

module _ (number answer : List ℕ) where
  -- 8 bytes and 24
  abbrev pub told_fits : Bool
  told_fits = eqb (length number) 8 && eqb (length answer) answer_bytes

  abbrev pub told_returned : Answer → ℕ
  told_returned a = cond told_fits (verdict_of a) (verdict_of Buffer)

  abbrev pub told_number : ℕ → List ℕ
  told_number x = cond told_fits (long_bytes x) number

  abbrev pub told_answer : Answer → List ℕ
  told_answer a = cond told_fits (put_row answer answer_bytes (answer_words a)) answer

  -- another buffer, as it was on ANSWER
  abbrev pub told_buffer : List ℕ → List ℕ → List ℕ
  told_buffer after before = cond told_fits after before
