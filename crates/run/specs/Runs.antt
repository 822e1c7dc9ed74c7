-- Demand 3's words: a program, a memory and a start that are permitted, the machine they make, a legal run of H steps
-- that stays and leaves a spare extension row, and tables that are that run's. Document 01, "Layouts", "The machine,
-- without flags", "The tabler".
use Rattle.std.specs.Prelude.{◌≡◌, ℕ, ◌+◌, ◌-◌, ◌*◌, ◌/◌, ◌<◌, ◌≤◌, List, T, length}
use Rattle.word.specs.Word.{IsWord}
use Rattle.answer.specs.Answers.{Accepted}
use Rattle.form.specs.Form.{well_formed}
use Rattle.rows.specs.Rows.{exec_at}
use Rattle.machine.specs.Machine.{Machine, State}
use Rattle.machine.specs.Step.{goes, step}
use Rattle.machine.specs.Run.{StayingRun}
use Rattle.rules.specs.Sizes.{Parts, program_fits, memory_fits, exec_fits, ext_fits, given}
use Rattle.rules.specs.Satisfies.{Words}
use Rattle.judge_spec.specs.Judged.{judge_of}
use Rattle.tables.specs.Machine.{machine_of}
use Rattle.tables.specs.Groups.{filled}
use Rattle.tables.specs.Bytes.{exec_table, ext_table}

-- what a run starts from
pub record Input : Type 0 where
  pub program : List ℕ
  pub memory : List ℕ
  pub pc : ℕ
  pub fp : ℕ

-- it, and two tables: what the judge is handed, and that it accepts them
abbrev pub with_tables : Input → List ℕ → List ℕ → Parts
with_tables i exec ext =
    record { program = i.program; memory = i.memory; exec = exec; ext = ext; pc = i.pc; fp = i.fp }

abbrev pub JudgeAccepts : Input → List ℕ → List ℕ → Type 0
JudgeAccepts i exec ext = judge_of (with_tables i exec ext) ≡ Accepted

abbrev pub machine : Input → Machine
machine i = machine_of i.program i.memory

abbrev pub start_of : Input → State
start_of i = record { pc = i.pc; fp = i.fp }

-- what verdicts 1 to 4 ask of a program, a memory and a start; that pc is a word follows where a run's first step is
-- legal, as it is in the program
pub record Permitted (i : Input) : Type 0 where
  pub program_size : T (program_fits (length i.program))
  pub memory_size : T (memory_fits (length i.memory))
  pub program_words : Words i.program
  pub memory_words : Words i.memory
  pub instructions : (let g = given i.program i.memory in (k : ℕ) → k < g.count → T (well_formed (g.instruction k)))
  pub fp_word : IsWord i.fp

-- the rows of an execution table and of an extension table, and the pc and fp of an execution row
abbrev pub rows_in : List ℕ → ℕ
rows_in exec = length exec / 32

abbrev pub ext_rows_in : List ℕ → ℕ
ext_rows_in ext = length ext / 120

abbrev pub row_state : List ℕ → ℕ → State
row_state exec r = record { pc = (exec_at exec (32 * r)).pc; fp = (exec_at exec (32 * r)).fp }

abbrev pub last_row : List ℕ → ℕ
last_row exec = rows_in exec - 1

-- a legal run of H steps whose last one stays, H permitted
pub record LegalRun (i : Input) (height : ℕ) (state : ℕ → State) : Type 0 where
  pub permitted : T (exec_fits (32 * height))
  pub run : StayingRun (machine i) (start_of i) (height - 1) state

-- its extension lengths plus 1 are at most K, K permitted
pub record Spare (i : Input) (height ext_height : ℕ) (state : ℕ → State) : Type 0 where
  pub permitted : T (ext_fits (120 * ext_height))
  pub room : filled (machine i) state height + 1 ≤ ext_height

-- a run is written as these tables: they are accepted, and they are that run's. They have H and K rows, row r's pc and
-- fp are the run's state r, and the last row stays
pub record WrittenAs (i : Input) (height ext_height : ℕ) (state : ℕ → State) (exec ext : List ℕ) : Type 0 where
  pub accepted : JudgeAccepts i exec ext
  pub rows : length exec ≡ 32 * height
  pub ext_rows : length ext ≡ 120 * ext_height
  pub states : (r : ℕ) → r < height → row_state exec r ≡ state r
  pub stays : step (machine i) (row_state exec (height - 1)) ≡ goes (row_state exec (height - 1))

-- the two tables of a run, as bytes
abbrev pub written_exec : Input → ℕ → (ℕ → State) → List ℕ
written_exec i height state = exec_table (machine i) state height

abbrev pub written_ext : Input → ℕ → ℕ → (ℕ → State) → List ℕ
written_ext i height ext_height state = ext_table (machine i) state height ext_height

-- two execution tables over one program, memory and start, row by row: the states are the same on every row that both
-- have, and what the longer has more repeats the other's last state
pub record Agree (exec other : List ℕ) : Type 0 where
  pub rows : (r : ℕ) → r < rows_in exec → r < rows_in other → row_state exec r ≡ row_state other r
  pub longer : (r : ℕ) → rows_in exec ≤ r → r < rows_in other → row_state other r ≡ row_state exec (last_row exec)
