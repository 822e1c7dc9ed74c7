-- Document 01, "Draws, recipe, label", and document 02, M-104: what the replay program prints for a text.
-- Declared in src/: Numbers (answer); Recipe (label).
use Rattle.std.specs.Prelude.{ℕ, cond, List, [], ◌∷◌, ◌++◌, eqb}
use Rattle.answer.specs.Verdicts.{numbers_of, accepted}
use Rattle.answer.specs.declared.Numbers.{Numbers}
use Rattle.answer.specs.Answers.{Answer, Size}
use Rattle.label.specs.Label.{label_of}
use Rattle.label.specs.Reading.{Reading}
use Rattle.label.specs.declared.Recipe.{Recipe}
use Rattle.maker_spec.specs.Bytes.{program_of, memory_of}
use Rattle.judge_spec.specs.Judged.{judge_of}
use Rattle.program_build.specs.Recipes.{exec_tabled, ext_tabled}
use Rattle.lines.specs.Line.{line_of}

-- verdict=, part=, place=, rule=, expected= and found=
abbrev pub verdict_text : List ℕ
verdict_text = 118 ∷ 101 ∷ 114 ∷ 100 ∷ 105 ∷ 99 ∷ 116 ∷ 61 ∷ []

abbrev pub part_text : List ℕ
part_text = 112 ∷ 97 ∷ 114 ∷ 116 ∷ 61 ∷ []

abbrev pub place_text : List ℕ
place_text = 112 ∷ 108 ∷ 97 ∷ 99 ∷ 101 ∷ 61 ∷ []

abbrev pub rule_text : List ℕ
rule_text = 114 ∷ 117 ∷ 108 ∷ 101 ∷ 61 ∷ []

abbrev pub expected_text : List ℕ
expected_text = 101 ∷ 120 ∷ 112 ∷ 101 ∷ 99 ∷ 116 ∷ 101 ∷ 100 ∷ 61 ∷ []

abbrev pub found_text : List ℕ
found_text = 102 ∷ 111 ∷ 117 ∷ 110 ∷ 100 ∷ 61 ∷ []

-- the six lines of an answer: four that name it, and two for what stood there
abbrev pub four_lines : Numbers → List ℕ
four_lines n =
    line_of verdict_text n.verdict ++ line_of part_text n.part ++ line_of place_text n.place ++ line_of rule_text n.rule

abbrev pub two_lines : Numbers → List ℕ
two_lines n = line_of expected_text n.expected ++ line_of found_text n.found

unfoldable pub lines_of : Answer → List ℕ
lines_of a = four_lines (numbers_of a) ++ two_lines (numbers_of a)

-- the judge's answer to the recipe's own tables
unfoldable pub judged_of : Recipe → Answer
judged_of r =
    judge_of (record { program = program_of r; memory = memory_of r; exec = exec_tabled r; ext = ext_tabled r; pc = 0; fp = 0 })

-- the program takes m = 10 only; another is SIZE part 2
unfoldable pub replay_of : Recipe → Answer
replay_of r = cond (eqb r.m 10) (judged_of r) (Size 2 0)

-- a bad label's six lines alone; else the label and then the six lines
unfoldable pub replay_output : Reading → List ℕ
replay_output r =
    cond (accepted r.answer) (label_of r.recipe ++ lines_of (replay_of r.recipe)) (lines_of r.answer)
