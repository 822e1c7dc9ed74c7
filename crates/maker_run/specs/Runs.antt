-- Document 02, M-107: the run of what is made, from pc 0, fp 0. `Drawable` draws are any 32 words, any kinds, and any a
-- and c below 32; the profiles are M-111's, and every recipe is flat. `Permitted`, `LegalRun`, `Spare` and
-- `JudgeAccepts` are demand 3's words (run); `answer_for`, `exec_left` and `ext_left` are what the tabler promises for
-- two buffers: its answer, and the very bytes that it leaves.
-- Declared in src/: Recipe (label).
use Rattle.std.specs.Prelude.{◌≡◌, true, List, ℕ, suc, ◌+◌, ◌*◌, ◌^◌, ◌≤◌, min, T, length}
use Rattle.answer.specs.Answers.{Accepted}
use Rattle.machine.specs.Machine.{State}
use Rattle.machine.specs.Step.{goes, step}
use Rattle.rules.specs.Sizes.{exec_fits, ext_fits}
use Rattle.tables.specs.Groups.{filled}
use Rattle.label.specs.Label.{ranged}
use Rattle.label.specs.declared.Recipe.{Recipe}
use Rattle.maker_draws.specs.Drawn.{Draws}
use Rattle.maker_spec.specs.Made.{Drawable, Profile, frame_at}
use Rattle.maker_spec.specs.Bytes.{instructions_of, cells_of, program_of, memory_of}
use Rattle.run.specs.Runs.{Input, machine, start_of, Permitted, LegalRun, Spare, JudgeAccepts}
use Rattle.run.specs.Tabler.{answer_for, exec_left, ext_left}

module _ (profile : Profile) (d : Draws) (n : ℕ) where
  -- n + 1 instructions and 2^m cells, from pc 0, fp 0
  abbrev pub input_made : ℕ → Input
  input_made m = record { program = instructions_of profile d n (n + 1); memory = cells_of profile d n (2 ^ m); pc = 0; fp = 0 }

  -- after r steps: at instruction r, and at instruction n from then on, in the frame there
  abbrev pub state_made : ℕ → State
  state_made r = record { pc = min r n; fp = frame_at profile d (min r n) }

-- the run of an input whose program has n instructions before its halt
pub record MadeRun (i : Input) (n : ℕ) (state : ℕ → State) : Type 0 where
  -- verdicts 1 to 4 find no fault in program, memory and start
  pub permitted : Permitted i
  -- every step is legal, and instruction n stays
  pub begins : state 0 ≡ start_of i
  pub steps : (r : ℕ) → step (machine i) (state r) ≡ goes (state (suc r))
  pub stays : step (machine i) (state n) ≡ goes (state n)
  -- the extension lengths are at most 2n
  pub lengths : (height : ℕ) → filled (machine i) state height ≤ 2 * n
  -- so at every permitted height the run is legal and stays, and every permitted K leaves a spare row
  pub legal : (height : ℕ) → T (exec_fits (32 * height)) → LegalRun i height state
  pub spare : (height ext_height : ℕ) → T (ext_fits (120 * ext_height)) → Spare i height ext_height state
  -- by demand 3 the tabler accepts, and the judge what it left
  pub tabled : (exec ext : List ℕ) → T (exec_fits (length exec)) → T (ext_fits (length ext)) → answer_for i exec ext ≡ Accepted
  pub judged : (exec ext : List ℕ) → T (exec_fits (length exec)) → T (ext_fits (length ext)) → JudgeAccepts i (exec_left i exec ext) (ext_left i exec ext)

-- a recipe's program and memory, from pc 0, fp 0, and the states of its run: at instruction r, and from n on there
abbrev pub recipe_input : Recipe → Input
recipe_input r = record { program = program_of r; memory = memory_of r; pc = 0; fp = 0 }

abbrev pub recipe_state : Recipe → ℕ → State
recipe_state r k = record { pc = min k r.n; fp = 0 }

-- the law, of whatever is drawn and in either profile; and every recipe is an instance
pub record MakerRuns : Type 0 where
  pub of_draws : (profile : Profile) (d : Draws) → Drawable d → (n m : ℕ) → n ≤ 124 → 10 ≤ m → m ≤ 29
      → MadeRun (input_made profile d n m) n (state_made profile d n)
  pub of_recipes : (r : Recipe) → ranged r ≡ true → MadeRun (recipe_input r) r.n (recipe_state r)
