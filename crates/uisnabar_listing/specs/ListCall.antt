-- Document 02, M-105, for C: a call that lists a program, and every byte it leaves.
use Rattle.std.specs.Prelude.{ℕ, List}
use Rattle.listing_spec.specs.Writing.{listed, listed_in}
use Rattle.reply.specs.Told.{told_returned, told_number, told_answer, told_buffer}

module _ (program text written answer : List ℕ) where
  unfoldable pub list_returned : ℕ
  list_returned = told_returned written answer (listed program text).answer

  unfoldable pub list_text_left : List ℕ
  list_text_left = told_buffer written answer (listed_in program text) text

  -- the bytes written, 0 on refusal
  unfoldable pub list_written_left : List ℕ
  list_written_left = told_number written answer (listed program text).written

  unfoldable pub list_answer_left : List ℕ
  list_answer_left = told_answer written answer (listed program text).answer
