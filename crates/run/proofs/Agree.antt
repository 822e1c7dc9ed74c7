-- Demand 3, agree: two accepted tables over one program, memory and start have the same states on every row both have,
-- and the longer one repeats the other's last state. And an accepted table names one run: any legal run from that start
-- has the states of its rows.
-- Assumes nothing.
use mathlib.Core.Path.{◌≡◌, sym, ◌∙◌, ap}
use mathlib.Core.List.{List}
use Prim.Native.Nat.{ℕ, zero, suc, ◌+◌, ◌-◌, ◌*◌, ◌≤◌, ◌<◌}
use native.Mathlib.Nat.{add-zero, add-suc}
use native.Mathlib.Omega.{arith}
use Rattle.machine.specs.Machine.{Machine, State}
use Rattle.machine.specs.Step.{step}
use Rattle.machine.specs.Run.{StayingRun}
use Rattle.judge_spec.proofs.Lengths.{whole}
use Rattle.run_steps.proofs.Legal.{one_successor}
use Rattle.run.specs.Runs.{Input, JudgeAccepts, rows_in, row_state, LegalRun, Agree}
use Rattle.run.proofs.Sound.{sound}

module _ {m : Machine} {start : State} {k l : ℕ} {s t : ℕ → State} (one : StayingRun m start k s) (two : StayingRun m start l t) where
  -- a step has one next state
  pub agree_on : (r : ℕ) → r ≤ k → r ≤ l → s r ≡ t r
  agree_on zero hk hl = one.begins ∙ sym two.begins
  agree_on (suc r) hk hl =
      one_successor (one.steps r (omega arith)) (ap (step m) (agree_on r (omega arith) (omega arith)) ∙ two.steps r (omega arith))

  -- past the end of the first the second stays where it was
  pub repeats : (d : ℕ) → k + d ≤ l → t (k + d) ≡ s k
  repeats zero hl = rw (add-zero k) (sym (agree_on k (omega arith) (omega arith)))
  repeats (suc d) hl =
      rw (add-suc k d)
      (one_successor (two.steps (k + d) (omega arith)) (ap (step m) (repeats d (omega arith)) ∙ one.stays))

-- a permitted height is at least 256
pub many_steps : {i : Input} {height : ℕ} {state : ℕ → State} → LegalRun i height state → 256 ≤ height
many_steps {height} legal =
    let h = (whole (32 * height) 32 25 legal.permitted).number.least in
    omega arith

module _ (i : Input) (exec ext : List ℕ) (accepted : JudgeAccepts i exec ext) where
  -- any legal run, of whatever height, has the states of its rows
  pub one_run : (height : ℕ) (state : ℕ → State) → LegalRun i height state → (r : ℕ) → r < height → r < rows_in exec → state r ≡ row_state exec r
  one_run height state legal r h l = agree_on legal.run (sound i exec ext accepted).run r (omega arith) (omega arith)

  -- two accepted tables, of whatever heights and with whatever extension tables
  pub agree : (other otherExt : List ℕ) → JudgeAccepts i other otherExt → Agree exec other
  agree other otherExt second =
      let one = sound i exec ext accepted in
      let two = sound i other otherExt second in
      let some = many_steps one in
      record {
        rows = λ r h l. agree_on one.run two.run r (omega arith) (omega arith);
        longer =
            λ r h l.
            let past : rows_in exec - 1 + (r - (rows_in exec - 1)) ≡ r = omega arith in
            rw past at (repeats one.run two.run (r - (rows_in exec - 1)) (omega arith));
      }
