-- Demand 3's converse: the tables of a legal run that stays satisfy the constraints. By induction over rows each state
-- is made of words, so each execution row meets its rules beside the next, and its step's group, if any, those of the
-- extension table.
-- Assumes nothing.
use mathlib.Core.Path.{◌≡◌, ◌∙◌}
use Prim.Native.Nat.{ℕ, zero, suc, ◌+◌, ◌-◌, ◌<◌}
use native.Mathlib.Numerals.{add-one}
use native.Mathlib.Omega.{arith}
use borrow.Author.Tests.{ltb-true, ltb-false}
use lib.Dec.{ltb}
use Rattle.word.proofs.Tests.{by_test}
use Rattle.word.specs.Word.{IsWord}
use Rattle.rules.specs.Given.{Given, next}
use Rattle.rules.specs.Execution.{exec_rules}
use Rattle.rules.specs.Satisfies.{All, Constraints}
use Rattle.machine.specs.Machine.{State}
use Rattle.machine.specs.Step.{goes, step}
use Rattle.tables.specs.Rows.{exec_row_of}
use Rattle.tables.specs.Groups.{ext_row_of}
use Rattle.run_steps.specs.Setting.{machine_in, state_of, ExecWords, Pushes}
use Rattle.run_steps.proofs.Tabled.{row_state_lem, tabled_words, tabled_rules, tabled_pushes, memory_holds, next_words}
use Rattle.run_groups.proofs.Meaning.{RowWords}
use Rattle.run_tables.specs.Setting.{tabled, Writable}
use Rattle.run_tables.proofs.Steps.{Calls, calls}
use Rattle.run_tables.proofs.Groups.{group_words, group_rules}
use Rattle.run_tables.proofs.Bus.{balanced_bus}

module _ {g : Given} {start : State} {height ext_height : ℕ} {state : ℕ → State} (w : Writable g start height ext_height state) where
  steps_on : (r : ℕ) → r < height → step (machine_in g) (state r) ≡ goes (state (next height r))
  steps_on r h =
      by_test (λ (k : ℕ). step (machine_in g) (state r) ≡ goes (state k)) (ltb (r + 1) height)
      (λ t. let more = ltb-true (r + 1) height t in rw (add-one r) (w.run.steps r (omega arith)))
      (λ t. let end = ltb-false (r + 1) height t in let last : r ≡ height - 1 = omega arith in rw last w.run.stays)

  frames : (r : ℕ) → r < height → IsWord (state r).fp
  frames zero h = rw w.run.begins w.frame
  frames (suc r) h = (next_words g w.fit (state r) (state (suc r)) (frames r (omega arith)) (w.run.steps r (omega arith))).1

  module _ (r : ℕ) (h : r < height) where
    pub exec_words_lem : ExecWords (exec_row_of (machine_in g) (state r))
    exec_words_lem = tabled_words g w.fit (state r) _ (frames r h) (steps_on r h)

    exec_rules_lem : (let x = exec_row_of (machine_in g) (state r) in All (exec_rules g x (exec_row_of (machine_in g) (state (next height r))) (g.instruction x.pc)))
    exec_rules_lem = tabled_rules g w.fit (state r) _ (frames r h) (steps_on r h) _ (row_state_lem (machine_in g) (state (next height r)))

    exec_pushes : Pushes g (exec_row_of (machine_in g) (state r))
    exec_pushes = tabled_pushes g w.fit (state r) _ (frames r h) (steps_on r h)

    exec_calls : Calls g (state r)
    exec_calls = calls g w.fit (state r) (memory_holds g w.fit (state r) _ (frames r h) (steps_on r h)) exec_pushes

  pub ext_words_lem : (k : ℕ) → RowWords (ext_row_of (machine_in g) state 0 height k)
  ext_words_lem = group_words g state height w.fit w.five exec_calls

  pub begins : state_of (exec_row_of (machine_in g) (state 0)) ≡ start
  begins = row_state_lem (machine_in g) (state 0) ∙ w.run.begins

  pub satisfied : Constraints g (tabled (machine_in g) state height ext_height)
  satisfied =
      record {
        execution = exec_rules_lem;
        extension = λ k h. group_rules g state height w.fit w.five exec_calls ext_height w.room k;
        bus = λ σ. balanced_bus g state height ext_height exec_pushes σ (omega (arith, w.room));
      }
