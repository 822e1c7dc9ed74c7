-- Demand 3, sound: where the constraints hold, every execution row is a legal step of the machine to the next row, row
-- 0 is the start, and the last row stays where it is.
-- Assumes nothing.
use mathlib.Core.Path.{◌≡◌, subst}
use mathlib.Core.List.{List}
use Prim.Native.Nat.{ℕ, ◌+◌, ◌*◌, ◌/◌, ◌<◌}
use native.Mathlib.Numerals.{add-one}
use native.Mathlib.Omega.{arith}
use lib.ListN.{length}
use Rattle.word.specs.Word.{IsWord}
use Rattle.machine.specs.Step.{step, goes}
use Rattle.machine.specs.Run.{StayingRun}
use Rattle.rules.specs.Given.{next}
use Rattle.rules.specs.Sizes.{given_of, tables_of}
use Rattle.rules.specs.Satisfies.{Satisfies}
use Rattle.judge_spec.proofs.Exactly.{accepted_satisfies}
use Rattle.judge_spec.proofs.Lengths.{whole}
use Rattle.run_steps.specs.Setting.{ExecWords}
use Rattle.run_steps.proofs.Legal.{same_state_lem}
use Rattle.run_steps.proofs.Sound.{row_steps, row_pushes}
use Rattle.run_groups.proofs.Pairs.{next_inner, next_last}
use Rattle.run.specs.Runs.{Input, JudgeAccepts, with_tables, machine, start_of, Permitted, rows_in, last_row, row_state, LegalRun}
use Rattle.run.proofs.Words.{exec_words_lem, fit, ext_table_lem, some_rows}
use Rattle.run.proofs.Memory.{memory_holds}

module _ (i : Input) (exec ext : List ℕ) (s : Satisfies (with_tables i exec ext)) where
  words : (r : ℕ) → r < rows_in exec → ExecWords ((tables_of (with_tables i exec ext)).exec r)
  words = exec_words_lem exec s.exec_words

  steps_to : (r n : ℕ) → r < rows_in exec → n < rows_in exec → next (rows_in exec) r ≡ n → step (machine i) (row_state exec r) ≡ goes (row_state exec n)
  steps_to r n hr hn e =
      let q = with_tables i exec ext in
      let t = tables_of q in
      let rules = rw e at (s.constraints.execution r hr) in
      let pushes = row_pushes (given_of q) (fit q s) (t.exec r) (t.exec n) (words r hr) (words n hn) rules in
      row_steps (given_of q) (fit q s) (t.exec r) (t.exec n) (words r hr) (words n hn) rules
      (memory_holds (given_of q) t (ext_table_lem q s) s.constraints.bus r hr pushes)

  -- tables that satisfy the constraints are a run that stays
  satisfied_run : StayingRun (machine i) (start_of i) (last_row exec) (row_state exec)
  satisfied_run =
      let some = some_rows (with_tables i exec ext) s in
      record {
        begins = same_state_lem s.start_pc s.start_fp;
        steps = λ r h. rw (← add-one r) (steps_to r (r + 1) (omega arith) (omega arith) (next_inner (rows_in exec) r (omega arith)));
        stays = steps_to (last_row exec) (last_row exec) (omega arith) (omega arith) (next_last (rows_in exec) (last_row exec) (omega arith));
      }

module _ (i : Input) (exec ext : List ℕ) (accepted : JudgeAccepts i exec ext) where
  s : Satisfies (with_tables i exec ext)
  s = accepted_satisfies (with_tables i exec ext) accepted

  -- what accepted tables were made from is permitted
  pub accepted_permitted : Permitted i
  accepted_permitted =
      let row = exec_words_lem exec s.exec_words 0 (some_rows (with_tables i exec ext) s) in
      record {
        program_size = s.program_size;
        memory_size = s.memory_size;
        program_words = s.program_words;
        memory_words = s.memory_words;
        instructions = s.instructions;
        fp_word = subst IsWord s.start_fp row.fp;
      }

  -- an accepted table of H rows is a legal run of H steps that stays
  pub sound : LegalRun i (rows_in exec) (row_state exec)
  sound =
      let w = whole (length exec) 32 25 s.exec_size in
      let same : 32 * (length exec / 32) ≡ length exec = omega (arith, w.whole) in
      record { permitted = rw same s.exec_size; run = satisfied_run i exec ext s }
