-- The judge's answer as it was before document 02's M-104: 5 EXEC and 6 EXTENSION name a row and a rule, and say
-- nothing of what stood there. Every other test is `judge_of`'s.
use Rattle.std.specs.Prelude.{ℕ, List, [], ◌∷◌, length}
use Rattle.answer.specs.Verdicts.{numbers_of}
use Rattle.answer.specs.Answers.{Answer, Exec as ExecRefused, Extension}
use Rattle.rules.specs.Given.{Given, Tables}
use Rattle.rules.specs.Sizes.{Parts, given_of, tables_of}
use Rattle.judge_spec.specs.Judged.{refused, sizes, words, instructions, starts_at, first_exec, exec_failing, first_ext, ext_failing, bus}

abbrev pub execution_before : Given → Tables → Answer → Answer
execution_before g t then = refused (first_exec g t) t.height (ExecRefused (first_exec g t) (exec_failing g t (first_exec g t)) 0 0) then

abbrev pub extension_before : Given → Tables → Answer → Answer
extension_before g t then = refused (first_ext g t) t.ext_height (Extension (first_ext g t) (ext_failing g t (first_ext g t)) 0 0) then

unfoldable pub judge_before : Parts → Answer
judge_before q =
    sizes (length q.program) (length q.memory) (length q.exec) (length q.ext)
    (words 1 q.program
    (words 2 q.memory
    (words 3 q.exec
    (words 4 q.ext
    (instructions (given_of q)
    (starts_at (tables_of q) q.pc q.fp
    (execution_before (given_of q) (tables_of q)
    (extension_before (given_of q) (tables_of q)
    (bus (given_of q) (tables_of q))))))))))

-- verdict, part, place and rule
abbrev pub first_four : Answer → List ℕ
first_four a = (numbers_of a).verdict ∷ (numbers_of a).part ∷ (numbers_of a).place ∷ (numbers_of a).rule ∷ []
