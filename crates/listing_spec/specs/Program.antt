-- Document 01, "Verdicts", and document 02, M-105: SIZE, WORD and INSTRUCTION as they apply to a program by itself.
use Rattle.std.specs.Prelude.{ℕ, ◌*◌, ◌/◌, ◌<◌, true, cond, List, [], ◌≡◌, T, length, get_or}
use Rattle.answer.specs.Answers.{Answer, Size}
use Rattle.form.specs.Form.{well_formed}
use Rattle.form.specs.Instruction.{instruction_at}
use Rattle.rules.specs.Sizes.{program_fits, given}
use Rattle.rules.specs.Satisfies.{Words}
use Rattle.judge_spec.specs.Judged.{words, instructions}

-- the tests in their order, and what comes after them
abbrev pub program_tests : List ℕ → Answer → Answer
program_tests program then =
    cond (program_fits (length program)) (words 1 program (instructions (given program []) then)) (Size 1 0)

-- a well-formed program: bytes, 1 to 2^20 instructions of 48, all words below p, every instruction well-formed. That it
-- is what passes the tests is proved (listing_law, specs/Listings).
pub record WellFormedProgram (program : List ℕ) : Type 0 where
  pub bytes : (k : ℕ) → get_or program k 0 < 256
  pub fits : program_fits (length program) ≡ true
  pub words : Words program
  pub formed : (i : ℕ) → i < length program / 48 → T (well_formed (instruction_at program (48 * i)))
