-- The two ends of a call that counts: a buffer of another length, and an answer.
-- Assumes nothing.
use mathlib.Core.Path.{◌≡◌, refl, sym, ap, ◌∙◌}
use mathlib.Core.Bool.{Bool, true, false, cond, ◌&&◌}
use mathlib.Core.List.{List, [], ◌∷◌}
use Prim.Native.Nat.{ℕ}
use lib.Dec.{eqb}
use lib.ListN.{length}
use borrow.Author.Tests.{eqb-true}
use Rattle.word.proofs.Tests.{each}
use Rattle.answer.specs.Verdicts.{accepted}
use Rattle.answer.specs.Answers.{Answer, Buffer}
use Rattle.rules.specs.Sizes.{Parts}
use Rattle.reply.specs.Reply.{answer_bytes, verdict_of, returned, replied}
use Rattle.grid_spec.specs.Grid.{count_answer, count_grid}
use Rattle.grid_bytes.specs.GridBytes.{grid_of, grid_bytes}
use Rattle.uisnabar_forms.specs.CountCall.{count_fits, count_returned, count_grid_left, count_answer_left}

module _ (q : Parts) (grid answer : List ℕ) where
  -- what a call owes, as its promise nests it
  abbrev pub Counts : ℕ → List ℕ → List ℕ → Type 0
  Counts r gridAfter answerAfter =
      (r ≡ count_returned q grid answer) × ((gridAfter ≡ count_grid_left q grid answer) × (answerAfter ≡ count_answer_left q grid answer))

  pub unfit_call : count_fits q grid answer ≡ false → (r : ℕ) → r ≡ verdict_of Buffer → Counts r grid answer
  unfolding count_returned count_grid_left count_answer_left
  unfit_call e r told = (rw e told, (rw e, rw e))

  module _ (e : count_fits q grid answer ≡ true) where
    lengths : (eqb (length grid) 1080 ≡ true) × (eqb (length answer) answer_bytes ≡ true)
    lengths = each (eqb (length grid) 1080) (eqb (length answer) answer_bytes ∷ []) e

    pub grid_whole : length grid ≡ 1080
    grid_whole = eqb-true (length grid) 1080 lengths.0

    pub told_call : (a : Answer) (after gridAfter answerAfter : List ℕ) (r : ℕ) → a ≡ count_answer (grid_of grid) q → after ≡ count_grid (grid_of grid) q
        → gridAfter ≡ cond (accepted a) (grid_bytes after) grid
        → r ≡ returned a answer
        → answerAfter ≡ replied a answer
        → Counts r gridAfter answerAfter
    unfolding count_returned count_grid_left count_answer_left returned
    told_call a after gridAfter answerAfter r said counted put told written =
        (rw e (rw (lengths.1, said) at told), (rw e (rw (said, counted) at put), rw e (rw said at written)))
