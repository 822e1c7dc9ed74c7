-- Document 02, M-106, for C: a call that jumps and one that starts a host, and every byte they leave. `next` is 8
-- bytes, and on a refused host the seed as it came.
use Rattle.std.specs.Prelude.{ℕ, List}
use Rattle.answer.specs.Answers.{Accepted}
use Rattle.reply.specs.Told.{told_returned, told_number, told_answer}
use Rattle.stream_spec.specs.Stream.{after}
use Rattle.stream_spec.specs.Host.{Started, start_of}

module _ (next answer : List ℕ) where
  unfoldable pub jump_returned : ℕ
  jump_returned = told_returned next answer Accepted

  unfoldable pub jump_answer_left : List ℕ
  jump_answer_left = told_answer next answer Accepted

-- the state so many draws further on
unfoldable pub jump_next_left : ℕ → ℕ → List ℕ → List ℕ → List ℕ
jump_next_left state draws next answer = told_number next answer (after draws (record { state = state })).state

module _ (seed host : ℕ) (next answer : List ℕ) where
  abbrev started : Started
  started = start_of (record { state = seed }) host

  unfoldable pub host_returned : ℕ
  host_returned = told_returned next answer started.answer

  unfoldable pub host_next_left : List ℕ
  host_next_left = told_number next answer started.generator.state

  unfoldable pub host_answer_left : List ℕ
  host_answer_left = told_answer next answer started.answer
