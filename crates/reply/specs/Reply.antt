-- Document 01, "Draws, recipe, label", its last paragraph, and document 02, M-104: the six numbers written as 24 bytes,
-- little-endian, and the verdict returned.
-- Declared in src/: Numbers (answer).
use Rattle.std.specs.Prelude.{ℕ, cond, List, [], ◌∷◌, eqb, length}
use Rattle.rows.specs.Rows.{put_row}
use Rattle.answer.specs.Verdicts.{numbers_of}
use Rattle.answer.specs.declared.Numbers.{Numbers}
use Rattle.answer.specs.Answers.{Answer, Buffer}

abbrev pub verdict_of : Answer → ℕ
verdict_of a = (numbers_of a).verdict

-- the length of an answer's buffer
abbrev pub answer_bytes : ℕ
answer_bytes = 24

-- in the order in which they are written
abbrev pub in_order : Numbers → List ℕ
in_order n = n.verdict ∷ n.part ∷ n.place ∷ n.rule ∷ n.expected ∷ n.found ∷ []

abbrev pub answer_words : Answer → List ℕ
answer_words a = in_order (numbers_of a)

-- ANSWER first: a buffer of another length is told by the verdict, and keeps its bytes
unfoldable pub returned : Answer → List ℕ → ℕ
returned a buffer = cond (eqb (length buffer) answer_bytes) (verdict_of a) (verdict_of Buffer)

abbrev pub replied : Answer → List ℕ → List ℕ
replied a buffer = put_row buffer answer_bytes (answer_words a)
