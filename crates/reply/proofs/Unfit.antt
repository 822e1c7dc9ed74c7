-- A buffer of another length hears of no answer but ANSWER, and keeps its bytes.
-- Assumes nothing.
use mathlib.Core.Path.{◌≡◌, sym, ◌∙◌}
use mathlib.Core.List.{List}
use Prim.Native.Nat.{ℕ}
use lib.ListN.{length}
use borrow.Author.Tests.{ne_eqb}
use Rattle.rows.proofs.Writing.{row_left}
use Rattle.answer.specs.Answers.{Answer, Buffer}
use Rattle.reply.specs.Reply.{verdict_of, answer_bytes, answer_words, returned, replied}

module _ (buffer : List ℕ) (other : length buffer ≡ answer_bytes → ⊥) where
  pub same_returned : (a b : Answer) → returned a buffer ≡ returned b buffer
  unfolding returned
  same_returned a b = rw (ne_eqb (length buffer) answer_bytes other)

  pub same_replied : (a b : Answer) → replied a buffer ≡ replied b buffer
  same_replied a b = sym (row_left buffer answer_bytes (answer_words a) other) ∙ row_left buffer answer_bytes (answer_words b) other

  pub buffer_told : (a : Answer) → returned a buffer ≡ verdict_of Buffer
  unfolding returned
  buffer_told a = rw (ne_eqb (length buffer) answer_bytes other)

  pub unchanged : (a : Answer) → replied a buffer ≡ buffer
  unchanged a = sym (row_left buffer answer_bytes (answer_words a) other)
