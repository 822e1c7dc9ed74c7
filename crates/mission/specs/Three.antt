-- The mission, demand 3: "An accepted table is one run: every execution row is a legal step of a machine described
-- without flags or polynomials, the last row stays where it is, two accepted tables agree, and in the other direction
-- each legal run that ends so, of a permitted height and with one spare extension row, is written as tables that are
-- accepted."
--
-- The words, as document 01 has them. An `Input` i is a program, a memory and a start, as bytes and two numbers;
-- `machine i` and `start_of i` are its one machine ("The machine, without flags") and its first state, a pc and an fp.
-- Tables are parts 3 and 4 as bytes: `rows_in exec` is H, and `row_state exec r` is the pc and fp of row r.
-- `JudgeAccepts i exec ext`: the judge's answer to all of it is ACCEPTED. `LegalRun i H state`: H is permitted, state 0
-- is the start, each state steps legally to the next, and the last one, H - 1, to itself. `Spare i H K state`: K is
-- permitted, and the run's extension lengths plus 1 are at most K. `Permitted i`: verdicts 1 to 4 find no fault in it.
-- `WrittenAs i H K state exec ext`: tables of H and K rows, accepted; row r's pc and fp are state r; the last stays.
-- `written_exec` and `written_ext` are the tables of a run ("The tabler").
-- `answer_for i exec ext`, `exec_left` and `ext_left` are what `tabler::table` promises for two buffers: its answer,
-- and the very bytes that it leaves in them. `Tells` says for each of its verdicts what document 01's table has.
-- `reasons` are what a step is asked, in STUCK's order, and `FirstFailing` is the first of a list that fails.
use Rattle.std.specs.Prelude.{◌≡◌, ◌↔◌, List, ℕ, ◌*◌, ◌<◌, length}
use Rattle.answer.specs.Answers.{Answer, Accepted}
use Rattle.machine.specs.Machine.{Machine, State}
use Rattle.machine.specs.Step.{goes, stuck, step}
use Rattle.rules.specs.Satisfies.{All}
use Rattle.judge_spec.specs.Refusal.{FirstFailing}
use Rattle.run.specs.Runs.{Input, JudgeAccepts, Permitted, LegalRun, Spare, WrittenAs, Agree, rows_in, row_state, written_exec, written_ext}
use Rattle.run.specs.Tabler.{answer_for, exec_left, ext_left, reasons, Tells}

pub record DemandThree : Type 0 where
  -- an accepted table is a run: every execution row is a legal step, and the last row stays where it is
  pub accepted_is_run : (i : Input) (exec ext : List ℕ) → JudgeAccepts i exec ext → LegalRun i (rows_in exec) (row_state exec)
  -- and one run: any legal run from that start, of whatever height, has the states of its rows
  pub accepted_is_one_run : (i : Input) (exec ext : List ℕ) → JudgeAccepts i exec ext
      → (height : ℕ) (state : ℕ → State) → LegalRun i height state
      → (r : ℕ) → r < height → r < rows_in exec → state r ≡ row_state exec r
  -- two accepted tables agree: the same state on each row both have, and the longer repeats the other's last
  pub two_agree : (i : Input) (exec ext other otherExt : List ℕ) → JudgeAccepts i exec ext → JudgeAccepts i other otherExt → Agree exec other
  -- each legal run that ends so, of a permitted height and with one spare extension row, is written as accepted tables
  pub each_run_written : (i : Input) → Permitted i → (height ext_height : ℕ) (state : ℕ → State)
      → LegalRun i height state
      → Spare i height ext_height state
      → WrittenAs i height ext_height state (written_exec i height state) (written_ext i height ext_height state)
  -- so is the run of any accepted table that leaves a spare row
  pub accepted_written : (i : Input) (exec ext : List ℕ) → JudgeAccepts i exec ext
      → (ext_height : ℕ) → Spare i (rows_in exec) ext_height (row_state exec)
      → (let state = row_state exec in let height = rows_in exec in WrittenAs i height ext_height state (written_exec i height state) (written_ext i height ext_height state))
  -- the tabler writes each such run into any two buffers of that size
  pub tabler_writes : (i : Input) → Permitted i → (height ext_height : ℕ) (state : ℕ → State)
      → LegalRun i height state
      → Spare i height ext_height state
      → (exec ext : List ℕ) → length exec ≡ 32 * height → length ext ≡ 120 * ext_height
      → (answer_for i exec ext ≡ Accepted) × WrittenAs i height ext_height state (exec_left i exec ext) (ext_left i exec ext)
  -- and where it answers ACCEPTED, the judge answers ACCEPTED on the very bytes it left
  pub tabler_accepted : (i : Input) (exec ext : List ℕ) → answer_for i exec ext ≡ Accepted → JudgeAccepts i (exec_left i exec ext) (ext_left i exec ext)
  -- the tabler gives an answer exactly where what the answer tells is so, STUCK, ROOM and OPEN among them; one alone is
  pub tabler_answers_exactly : (i : Input) (exec ext : List ℕ) (a : Answer) → (answer_for i exec ext ≡ a) ↔ Tells i exec ext a
  pub tabler_answers_once : (i : Input) (exec ext : List ℕ) (a b : Answer) → Tells i exec ext a → Tells i exec ext b → a ≡ b
  -- a step is stuck by the first thing it is asked, in document 01's order, that fails, and legal where nothing does
  pub stuck_first : (m : Machine) (s : State) (reason : ℕ) → (step m s ≡ stuck reason) ↔ FirstFailing (reasons m s) reason
  pub legal_step : (m : Machine) (s : State) → ((t : State) × (step m s ≡ goes t)) ↔ All (reasons m s)
