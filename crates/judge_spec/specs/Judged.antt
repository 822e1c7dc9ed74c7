-- Document 01, "Verdicts" 0 to 7: the first failure in document 01's order. Tests run in number order. Document 02,
-- M-104: what a lookup that fails found.
use Rattle.std.specs.Prelude.{ℕ, ◌/◌, Bool, ◌&&◌, ◌||◌, cond, List, length, ltb, eqb}
use Rattle.word.specs.Word.{p}
use Rattle.form.specs.Form.{well_formed}
use Rattle.answer.specs.Answers.{Answer, Accepted, Size, Word, Instruction, Start, Exec as ExecRefused, Extension, Bus}
use Rattle.rules.specs.Given.{Given, Tables, Rule, next, zero?}
use Rattle.rules.specs.Execution.{exec_rules}
use Rattle.rules.specs.Extension.{ext_rules}
use Rattle.rules.specs.Lookups.{exec_lookups, ext_lookups, found_under}
use Rattle.rules.specs.Bus.{Tuple, pushed, pushes, pulled, pulls, instruction_of, balanced}
use Rattle.rules.specs.Sizes.{Parts, program_fits, memory_fits, exec_fits, ext_fits, word_of, given_of, tables_of}
use Rattle.judge_spec.specs.First.{first, failing}

-- refused where the number found is one of the numbers tested
abbrev pub refused : ℕ → ℕ → Answer → Answer → Answer
refused found count a b = cond (ltb found count) a b

-- 1 SIZE: the lowest part of bad length
abbrev pub sizes : ℕ → ℕ → ℕ → ℕ → Answer → Answer
sizes program memory exec ext then =
    cond (program_fits program)
    (cond (memory_fits memory)
    (cond (exec_fits exec) (cond (ext_fits ext) then (Size 4 0)) (Size 3 0))
    (Size 2 0))
    (Size 1 0)

-- 2 WORD: the first word at or above p, by part
abbrev pub is_word : List ℕ → ℕ → Bool
is_word bytes k = ltb (word_of bytes k) p

abbrev pub first_word : List ℕ → ℕ
first_word bytes = first (is_word bytes) 0 (length bytes / 4)

abbrev pub words : ℕ → List ℕ → Answer → Answer
words part bytes then = refused (first_word bytes) (length bytes / 4) (Word part (first_word bytes)) then

-- 3 INSTRUCTION: the first malformed one
abbrev pub first_malformed : Given → ℕ
first_malformed g = first (λ i. well_formed (g.instruction i)) 0 g.count

abbrev pub instructions : Given → Answer → Answer
instructions g then = refused (first_malformed g) g.count (Instruction (first_malformed g)) then

-- 4 START: row 0 isn't the start
abbrev pub starts_at : Tables → ℕ → ℕ → Answer → Answer
starts_at t pc fp then = cond (eqb (t.exec 0).pc pc && eqb (t.exec 0).fp fp) then Start

-- 5 EXEC and 6 EXTENSION: the first row with a rule that fails, and of its rules the first that does
abbrev pub exec_rules_at : Given → Tables → ℕ → List Rule
exec_rules_at g t r = exec_rules g (t.exec r) (t.exec (next t.height r)) (instruction_of g t r)

abbrev pub exec_failing : Given → Tables → ℕ → ℕ
exec_failing g t r = failing (exec_rules_at g t r)

abbrev pub first_exec : Given → Tables → ℕ
first_exec g t = first (λ r. zero? (exec_failing g t r)) 0 t.height

-- a row and its rule, with what the lookup under the rule's number found
abbrev pub exec_refusal : Given → Tables → ℕ → ℕ → Answer
exec_refusal g t r n =
    let f = found_under g.size g.cell (exec_lookups (t.exec r)) n in
    ExecRefused r n f.expected f.found

abbrev pub execution : Given → Tables → Answer → Answer
execution g t then = refused (first_exec g t) t.height (exec_refusal g t (first_exec g t) (exec_failing g t (first_exec g t))) then

abbrev pub ext_rules_at : Given → Tables → ℕ → List Rule
ext_rules_at g t r = ext_rules g (t.ext r) (t.ext (next t.ext_height r))

abbrev pub ext_failing : Given → Tables → ℕ → ℕ
ext_failing g t r = failing (ext_rules_at g t r)

abbrev pub first_ext : Given → Tables → ℕ
first_ext g t = first (λ r. zero? (ext_failing g t r)) 0 t.ext_height

abbrev pub ext_refusal : Given → Tables → ℕ → ℕ → Answer
ext_refusal g t r n =
    let f = found_under g.size g.cell (ext_lookups (t.ext r)) n in
    Extension r n f.expected f.found

abbrev pub extension : Given → Tables → Answer → Answer
extension g t then = refused (first_ext g t) t.ext_height (ext_refusal g t (first_ext g t) (ext_failing g t (first_ext g t))) then

-- 7 BUS: the first pushing row whose tuple is unequal; else the first pulling row whose tuple is
abbrev pub pushed_at : Given → Tables → ℕ → Tuple
pushed_at g t r = pushed (instruction_of g t r) (t.exec r)

abbrev pub push_balanced : Given → Tables → ℕ → Bool
push_balanced g t r = zero? (pushes (instruction_of g t r)) || balanced g t (pushed_at g t r)

abbrev pub pull_balanced : Given → Tables → ℕ → Bool
pull_balanced g t r = zero? (pulls (t.ext r)) || balanced g t (pulled (t.ext r))

abbrev pub first_push : Given → Tables → ℕ
first_push g t = first (push_balanced g t) 0 t.height

abbrev pub first_pull : Given → Tables → ℕ
first_pull g t = first (pull_balanced g t) 0 t.ext_height

abbrev pub bus : Given → Tables → Answer
bus g t = refused (first_push g t) t.height (Bus 3 (first_push g t)) (refused (first_pull g t) t.ext_height (Bus 4 (first_pull g t)) Accepted)

unfoldable pub judge_of : Parts → Answer
judge_of q =
    sizes (length q.program) (length q.memory) (length q.exec) (length q.ext)
    (words 1 q.program
    (words 2 q.memory
    (words 3 q.exec
    (words 4 q.ext
    (instructions (given_of q)
    (starts_at (tables_of q) q.pc q.fp
    (execution (given_of q) (tables_of q)
    (extension (given_of q) (tables_of q)
    (bus (given_of q) (tables_of q))))))))))
