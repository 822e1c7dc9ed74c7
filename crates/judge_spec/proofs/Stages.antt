-- The judge's stages as one shape, a test of numbers in order, and the judge's answer from each test on.
use mathlib.Core.Bool.{Bool}
use Prim.Native.Nat.{ℕ}
use Rattle.answer.specs.Answers.{Answer, Accepted, Bus}
use Rattle.rules.specs.Given.{Given, Tables}
use Rattle.rules.specs.Sizes.{Parts, given_of, tables_of}
use Rattle.judge_spec.specs.First.{first}
use Rattle.judge_spec.specs.Judged.{refused, words, instructions, starts_at, execution, extension, pull_balanced, bus}

-- the first of n numbers that fails a test is refused, with the answer that the number gives
abbrev pub stage : (ℕ → Bool) → ℕ → (ℕ → Answer) → Answer → Answer
stage passes n answer then = refused (first passes 0 n) n (answer (first passes 0 n)) then

-- the judge's answer from a test on; first what the bus says once no pushing row is refused
module _ (q : Parts) where
  abbrev g : Given
  g = given_of q

  abbrev t : Tables
  t = tables_of q

  abbrev pub judge_pulls : Answer
  judge_pulls = stage (pull_balanced g t) t.ext_height (Bus 4) Accepted

  abbrev pub judge_bus : Answer
  judge_bus = bus g t

  abbrev pub judge_extension : Answer
  judge_extension = extension g t judge_bus

  abbrev pub judge_execution : Answer
  judge_execution = execution g t judge_extension

  abbrev pub judge_start : Answer
  judge_start = starts_at t q.pc q.fp judge_execution

  abbrev pub judge_program : Answer
  judge_program = instructions g judge_start

  abbrev pub judge_words : Answer
  judge_words = words 1 q.program (words 2 q.memory (words 3 q.exec (words 4 q.ext judge_program)))
