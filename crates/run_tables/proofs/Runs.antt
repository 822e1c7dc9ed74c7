-- A run is the machine's own: each step has one next state. So the states of a run, and of one that stays, are those
-- that the machine comes to.
-- Assumes nothing.
use mathlib.Core.Path.{◌≡◌, refl, sym, ◌∙◌, ap, ap₂}
use Prim.Native.Nat.{ℕ, zero, suc, ◌+◌, ◌≤◌}
use native.Mathlib.Omega.{arith}
use Rattle.machine.specs.Machine.{Machine, State}
use Rattle.machine.specs.Step.{goes}
use Rattle.machine.specs.Run.{StayingRun, after}
use Rattle.tables.specs.Rows.{state_at}
use Rattle.tables.specs.Groups.{length_at, filled}
use Rattle.run_tables.specs.Setting.{LegalSteps}

module _ {m : Machine} {start : State} {n : ℕ} {state : ℕ → State} (run : LegalSteps m start n state) where
  pub after_is : (r : ℕ) → r ≤ n → after m start r ≡ goes (state r)
  unfolding after
  after_is zero h = ap goes (sym run.begins)
  after_is (suc r) h = rw (after_is r (omega arith)) (run.steps r h)

  -- row r's state is what the machine comes to after r steps
  pub state_is : (r : ℕ) → r ≤ n → state_at m start r ≡ state r
  unfolding state_at
  state_is r h = rw (after_is r h)

  -- and so are the extension rows that they fill
  pub filled_same : (k : ℕ) → k ≤ suc n → filled m (state_at m start) k ≡ filled m state k
  unfolding filled
  filled_same zero h = refl
  filled_same (suc k) h = ap₂ ◌+◌ (filled_same k (omega arith)) (ap (length_at m) (state_is k (omega arith)))

module _ {m : Machine} {start : State} {last : ℕ} {state : ℕ → State} (run : StayingRun m start last state) where
  pub before_last : LegalSteps m start last state
  before_last = record { begins = run.begins; steps = run.steps }

  pub own_run : StayingRun m start last (state_at m start)
  own_run =
      let is = state_is before_last in
      record {
        begins = is 0 (omega arith) ∙ run.begins;
        steps = λ r h. rw (is r (omega arith), is (suc r) h) (run.steps r h);
        stays = rw (is last (omega arith)) run.stays;
      }
