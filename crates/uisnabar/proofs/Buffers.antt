-- What the lengths of a call's buffers make of it.
-- Assumes nothing.
use mathlib.Core.Path.{◌≡◌, refl}
use mathlib.Core.Bool.{Bool, true, false, ◌&&◌}
use mathlib.Core.List.{List}
use Prim.Native.Nat.{ℕ}
use lib.Dec.{eqb}
use lib.ListN.{length}
use borrow.Author.Tests.{eq-eqb, ne_eqb}
use Rattle.answer.specs.Verdicts.{accepted}
use Rattle.answer.specs.Answers.{Buffer}
use Rattle.label.specs.Reading.{Reading, Reads}
use Rattle.reply.specs.Reply.{answer_bytes, verdict_of, returned, replied}
use Rattle.uisnabar.specs.Calls.{recipe_words, both_fit, held, LabelCall}

module _ (buffer : List ℕ) (size : ℕ) (other : length buffer ≡ size → ⊥) where
  pub unfit_left : (b : Bool) → eqb (length buffer) size && b ≡ false
  unfit_left b = rw (ne_eqb (length buffer) size other)

  pub unfit_right : (b : Bool) → b && eqb (length buffer) size ≡ false
  unfit_right true = rw (ne_eqb (length buffer) size other)
  unfit_right false = refl

module _ (text answer recipe : List ℕ) (s : Reading) (reads : Reads text s) where
  pub unfit : (answerAfter : List ℕ) (r : ℕ) → both_fit answer recipe ≡ false → r ≡ verdict_of Buffer → answerAfter ≡ answer
      → LabelCall text answer recipe answerAfter recipe r
  unfit answerAfter r e told kept = record { reading = s; reads = reads; verdict = rw e told; answered = rw e kept; written = rw e }

  pub fit : (answerAfter recipeAfter : List ℕ) (r : ℕ) → length answer ≡ answer_bytes → length recipe ≡ 20
      → r ≡ returned s.answer answer
      → answerAfter ≡ replied s.answer answer
      → recipeAfter ≡ held (accepted s.answer) 20 recipe (recipe_words s.recipe)
      → LabelCall text answer recipe answerAfter recipeAfter r
  unfolding returned
  fit answerAfter recipeAfter r la lr told replied-to put =
      let fa = eq-eqb (length answer) answer_bytes la in
      let fr = eq-eqb (length recipe) 20 lr in
      record {
        reading = s;
        reads = reads;
        verdict = rw (fa, fr) (rw fa at told);
        answered = rw (fa, fr) replied-to;
        written = rw (fa, fr) put;
      }
