-- Demand 3's converse in bytes: parts whose tables are those of a legal run that stays satisfy the draft's constraints.
-- Assumes nothing.
use mathlib.Core.Path.{◌≡◌, ◌∙◌, ap}
use Prim.Native.Nat.{ℕ, ◌*◌}
use native.Mathlib.Omega.{arith}
use lib.ListN.{length}
use Rattle.rules.specs.Satisfies.{Satisfies}
use Rattle.rules.specs.Sizes.{Parts, given_of, tables_of}
use Rattle.machine.specs.Machine.{State}
use Rattle.run_steps.specs.Setting.{machine_in, state_of}
use Rattle.run_tables.specs.Setting.{tabled, TabledRun}
use Rattle.run_tables.proofs.Written.{begins, satisfied}
use Rattle.run_tables.proofs.Bytes.{exec_length, ext_length, exec_read, ext_read, exec_table_words, ext_table_words}
use Rattle.run_tables.proofs.Same.{SameRows, constraints_same}

module _ {q : Parts} {height ext_height : ℕ} {state : ℕ → State} (run : TabledRun q height ext_height state) where
  exec_bytes_lem : length q.exec ≡ 32 * height
  exec_bytes_lem = ap length run.exec ∙ exec_length (machine_in (given_of q)) state height

  ext_bytes_lem : length q.ext ≡ 120 * ext_height
  ext_bytes_lem = ap length run.ext ∙ ext_length (machine_in (given_of q)) state height ext_height

  tables_same : SameRows (tabled (machine_in (given_of q)) state height ext_height) (tables_of q)
  tables_same =
      record {
        height = omega (arith, exec_bytes_lem);
        exec = λ r h. rw run.exec (exec_read run.writable r h);
        ext_height = omega (arith, ext_bytes_lem);
        ext = λ k h. rw run.ext (ext_read run.writable k h);
      }

  first : state_of ((tables_of q).exec 0) ≡ record { pc = q.pc; fp = q.fp }
  first = ap state_of (tables_same.exec 0 run.writable.some) ∙ begins run.writable

  pub satisfies : Satisfies q
  satisfies =
      record {
        program_size = run.program_size;
        memory_size = run.memory_size;
        exec_size = rw exec_bytes_lem run.exec_size;
        ext_size = rw ext_bytes_lem run.ext_size;
        program_words = run.program_words;
        memory_words = run.memory_words;
        exec_words = rw run.exec (exec_table_words run.writable);
        ext_words = rw run.ext (ext_table_words run.writable);
        instructions = run.writable.fit.well_formed;
        start_pc = ap (λ (s : State). s.pc) first;
        start_fp = ap (λ (s : State). s.fp) first;
        constraints = constraints_same (given_of q) _ (tables_of q) tables_same (satisfied run.writable);
      }
