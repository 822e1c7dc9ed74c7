-- Document 02, M-102, for C: what a call that translates returns, and every byte it leaves. ANSWER comes first, and
-- writes nothing.
use Rattle.std.specs.Prelude.{ℕ, cond, List, eqb, length}
use Rattle.answer.specs.Answers.{Answer}
use Rattle.reply.specs.Reply.{answer_bytes, returned, replied}
use Rattle.edition_spec.specs.Translated.{translate_answer, program_left}

module _ (old program answer : List ℕ) where
  abbrev pub translate_told : Answer
  translate_told = translate_answer old (length program)

  abbrev pub translate_returned : ℕ
  translate_returned = returned translate_told answer

  -- written on ACCEPTED alone
  unfoldable pub translate_program_left : List ℕ
  translate_program_left = cond (eqb (length answer) answer_bytes) (program_left old program) program

  abbrev pub translate_answer_left : List ℕ
  translate_answer_left = replied translate_told answer
