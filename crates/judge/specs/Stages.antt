-- Inner: the judge's answer from a stage on, over bytes: 5 to 7, 3 to 7, 2 to 7.
use Rattle.std.specs.Prelude.{List, ℕ}
use Rattle.answer.specs.Answers.{Answer}
use Rattle.rules.specs.Sizes.{given, tables}
use Rattle.judge_spec.specs.Judged.{words, instructions, starts_at, execution, extension, bus}

abbrev pub from_rules : List ℕ → List ℕ → List ℕ → List ℕ → Answer
from_rules program memory exec ext =
    let g = given program memory in
    let t = tables exec ext in
    execution g t (extension g t (bus g t))

abbrev pub from_instructions : List ℕ → List ℕ → ℕ → ℕ → List ℕ → List ℕ → Answer
from_instructions program memory pc fp exec ext =
    instructions (given program memory) (starts_at (tables exec ext) pc fp (from_rules program memory exec ext))

abbrev pub from_words : List ℕ → List ℕ → ℕ → ℕ → List ℕ → List ℕ → Answer
from_words program memory pc fp exec ext =
    words 1 program (words 2 memory (words 3 exec (words 4 ext (from_instructions program memory pc fp exec ext))))
