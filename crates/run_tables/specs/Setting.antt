-- Document 01, "The tabler" and "Verdicts" 10: a run of H legal steps that stays and has room, and its two tables.
use Rattle.std.specs.Prelude.{◌≡◌, ℕ, suc, ◌+◌, ◌-◌, ◌*◌, ◌≤◌, ◌<◌, T, length}
use Rattle.word.specs.Word.{IsWord}
use Rattle.rules.specs.Given.{Given, Tables}
use Rattle.rules.specs.Satisfies.{Words}
use Rattle.rules.specs.Sizes.{Parts, program_fits, memory_fits, exec_fits, ext_fits, given_of}
use Rattle.machine.specs.Machine.{Machine, State}
use Rattle.machine.specs.Step.{goes, step}
use Rattle.machine.specs.Run.{StayingRun}
use Rattle.tables.specs.Rows.{exec_row_of}
use Rattle.tables.specs.Groups.{ext_row_of, filled}
use Rattle.tables.specs.Bytes.{exec_table, ext_table}
use Rattle.run_steps.specs.Setting.{machine_in, Fit}

-- H execution rows of the states, and K extension rows: each extension step's group, then padding
abbrev pub tabled : Machine → (ℕ → State) → ℕ → ℕ → Tables
tabled m state height ext_height =
    record {
      height = height;
      exec = λ r. exec_row_of m (state r);
      ext_height = ext_height;
      ext = λ k. ext_row_of m state 0 height k;
    }

-- the states of a run up to row n: from the start on, and every step before row n is legal
pub record LegalSteps (m : Machine) (start : State) (n : ℕ) (state : ℕ → State) : Type 0 where
  pub begins : state 0 ≡ start
  pub steps : (r : ℕ) → r < n → step m (state r) ≡ goes (state (suc r))

-- a run that can be written down; the start's pc needs no bound: the first step is legal, so it is in the program
pub record Writable (g : Given) (start : State) (height ext_height : ℕ) (state : ℕ → State) : Type 0 where
  pub fit : Fit g
  pub five : 5 ≤ g.size
  pub frame : IsWord start.fp
  pub some : 1 ≤ height
  pub run : StayingRun (machine_in g) start (height - 1) state
  pub room : filled (machine_in g) state height + 1 ≤ ext_height

-- parts whose sizes and words pass, and whose two tables are the bytes of a run from their start
pub record TabledRun (q : Parts) (height ext_height : ℕ) (state : ℕ → State) : Type 0 where
  pub program_size : T (program_fits (length q.program))
  pub memory_size : T (memory_fits (length q.memory))
  pub exec_size : T (exec_fits (32 * height))
  pub ext_size : T (ext_fits (120 * ext_height))
  pub program_words : Words q.program
  pub memory_words : Words q.memory
  pub writable : Writable (given_of q) (record { pc = q.pc; fp = q.fp }) height ext_height state
  pub exec : q.exec ≡ exec_table (machine_in (given_of q)) state height
  pub ext : q.ext ≡ ext_table (machine_in (given_of q)) state height ext_height
