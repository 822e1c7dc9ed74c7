-- Demand 3, converse: each legal run that stays, of a permitted height and with one spare extension row, is written as
-- tables that are accepted, and they are that run's.
-- Assumes nothing.
use mathlib.Core.Path.{◌≡◌, refl, ap, ◌∙◌}
use Prim.Native.Nat.{ℕ, ◌-◌, ◌≤◌, ◌<◌}
use native.Mathlib.Omega.{arith}
use mathlib.Core.List.{List, []}
use lib.ListN.{length}
use Rattle.rows.specs.declared.Exec.{Exec}
use Rattle.machine.specs.Machine.{State}
use Rattle.judge_spec.proofs.Exactly.{satisfies_accepted}
use Rattle.judge_spec.proofs.Lengths.{whole}
use Rattle.tables.specs.Rows.{exec_row_of}
use Rattle.run_steps.specs.Setting.{state_of}
use Rattle.run_tables.specs.Setting.{Writable}
use Rattle.run_tables.proofs.Bytes.{exec_length, ext_length, exec_read}
use Rattle.run_tables.proofs.Satisfied.{satisfies}
use Rattle.rules.specs.Sizes.{given}
use Rattle.run.specs.Runs.{Input, JudgeAccepts, with_tables, machine, start_of, Permitted, LegalRun, Spare, WrittenAs, row_state, written_exec, written_ext}
use Rattle.run.proofs.Words.{fit_of}
use Rattle.run.proofs.Agree.{many_steps}

module _ (i : Input) (permitted : Permitted i) (height ext_height : ℕ) (state : ℕ → State) (legal : LegalRun i height state)
    (spare : Spare i height ext_height state) where
  cells : 256 ≤ (given i.program i.memory).size
  cells = (whole (length i.memory) 4 29 permitted.memory_size).number.least

  writable : Writable (given i.program i.memory) (start_of i) height ext_height state
  writable =
      record {
        fit =
            fit_of (with_tables i [] []) permitted.program_size permitted.memory_size permitted.program_words permitted.memory_words
            permitted.instructions;
        five = omega (arith, cells);
        frame = permitted.fp_word;
        some = omega (arith, many_steps legal);
        run = legal.run;
        room = spare.room;
      }

  abbrev exec : List ℕ
  exec = written_exec i height state

  abbrev ext : List ℕ
  ext = written_ext i height ext_height state

  written_accepted : JudgeAccepts i exec ext
  written_accepted =
      satisfies_accepted (with_tables i exec ext)
      (satisfies
      (record {
        program_size = permitted.program_size;
        memory_size = permitted.memory_size;
        exec_size = legal.permitted;
        ext_size = spare.permitted;
        program_words = permitted.program_words;
        memory_words = permitted.memory_words;
        writable = writable;
        exec = refl;
        ext = refl;
      }))

  row_is : (s : State) → state_of (exec_row_of (machine i) s) ≡ s
  unfolding exec_row_of
  row_is s = refl

  state_of_row : (r : ℕ) → r < height → row_state exec r ≡ state r
  state_of_row r h = ap (λ (x : Exec). state_of x) (exec_read writable r h) ∙ row_is (state r)

  pub converse : WrittenAs i height ext_height state exec ext
  converse =
      let some = many_steps legal in
      record {
        accepted = written_accepted;
        rows = exec_length (machine i) state height;
        ext_rows = ext_length (machine i) state height ext_height;
        states = state_of_row;
        stays = rw (state_of_row (height - 1) (omega arith)) legal.run.stays;
      }
