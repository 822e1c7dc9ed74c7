-- Document 01, "Draws, recipe, label" and "Verdicts", row SIZE parts 0 and 5: what writing a label owes.
-- Declared in src/: Refusal (answer); Recipe (here).
use Rattle.std.specs.Prelude.{ℕ, Result, cond, List, ◌++◌, ltb, length, drop}
use Rattle.answer.specs.declared.Refusal.{Refusal}
use Rattle.answer.specs.Answers.{Answer, Accepted, Size, answer_of, number_of}
use Rattle.label.specs.declared.Recipe.{Recipe}
use Rattle.label.specs.Label.{ranged, label_of}

-- what writing a label did: the bytes written, 0 where it was refused
pub record Written : Type 0 where
  pub answer : Answer
  pub length : ℕ

-- of a call that gives the bytes written where it is accepted
abbrev pub written_by : Result ℕ Refusal → Written
written_by w = record { answer = answer_of w; length = number_of w }

-- a recipe out of range is part 0; a buffer shorter than the label is part 5 with the length needed
unfoldable pub written : Recipe → ℕ → Written
written r room =
    cond (ranged r)
    (cond (ltb room (length (label_of r)))
    (record { answer = Size 5 (length (label_of r)); length = 0 })
    (record { answer = Accepted; length = length (label_of r) }))
    (record { answer = Size 0 0; length = 0 })

-- the buffer at return: the label and then what stood there; as it was where the label was refused
unfoldable pub buffered : Recipe → List ℕ → List ℕ
buffered r buffer =
    cond (ranged r)
    (cond (ltb (length buffer) (length (label_of r))) buffer (label_of r ++ drop (length (label_of r)) buffer))
    buffer
