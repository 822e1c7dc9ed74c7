-- The two ends of a call that gives a number beside its answer: a buffer of another length, and an answer.
-- Assumes nothing.
use Prim.Native.Nat.{ℕ, ◌+◌}
use mathlib.Core.Bool.{true, false}
use mathlib.Core.List.{List, [], ◌∷◌, ◌++◌, append-nil}
use mathlib.Core.Path.{◌≡◌}
use native.Mathlib.Omega.{arith}
use lib.Dec.{eqb}
use lib.ListN.{length, take, drop, drop_of_length-le}
use borrow.Author.Tests.{eqb-true}
use Rattle.word.proofs.Tests.{each}
use Rattle.answer.specs.Answers.{Answer, Buffer}
use Rattle.long.specs.Long.{long_bytes}
use Rattle.reply.specs.Reply.{answer_bytes, verdict_of, replied}
use Rattle.reply.specs.Told.{told_fits, told_returned, told_number, told_answer, told_buffer}

-- all of the eight bytes
pub eight : (number : List ℕ) (x : ℕ) → length number ≡ 8 → take 0 number ++ long_bytes x ++ drop (0 + 8) number ≡ long_bytes x
eight number x h = rw (drop_of_length-le number {i = 8} (omega (arith, h))) (append-nil (long_bytes x))

module _ (number answer : List ℕ) where
  -- what is returned and left, as a call's promise nests it
  abbrev pub Told : Answer → ℕ → ℕ → List ℕ → List ℕ → Type 0
  Told a x r numberAfter answerAfter =
      (r ≡ told_returned number answer a) × ((numberAfter ≡ told_number number answer x) × (answerAfter ≡ told_answer number answer a))

  pub untold : (a : Answer) (x r : ℕ) → told_fits number answer ≡ false → r ≡ verdict_of Buffer → Told a x r number answer
  untold a x r e is = (rw e is, (rw e, rw e))

  pub kept : (after before : List ℕ) → told_fits number answer ≡ false → before ≡ told_buffer number answer after before
  kept after before e = rw e

  module _ (e : told_fits number answer ≡ true) where
    pub wholes : (length number ≡ 8) × (length answer ≡ answer_bytes)
    wholes =
        let t = each (eqb (length number) 8) (eqb (length answer) answer_bytes ∷ []) e in
        (eqb-true (length number) 8 t.0, eqb-true (length answer) answer_bytes t.1)

    pub told : (a : Answer) (x r : ℕ) (numberAfter answerAfter : List ℕ)
        → (r ≡ verdict_of a) × (numberAfter ≡ long_bytes x) × (answerAfter ≡ replied a answer)
        → Told a x r numberAfter answerAfter
    told a x r numberAfter answerAfter said = (rw e said.0, (rw e said.1, rw e said.2))

    pub left : (after before : List ℕ) → after ≡ told_buffer number answer after before
    left after before = rw e
