-- Document 01, "Verdicts" 9 to 11, and the mission's third demand: a run of H legal steps that stays at its end.
use Rattle.std.specs.Prelude.{◌≡◌, ℕ, zero, suc, ◌<◌}
use Rattle.machine.specs.Machine.{Machine, State}
use Rattle.machine.specs.Step.{Outcome, goes, stuck, step}

-- a state for each row, from the start on; every step is legal, and the last one stays
pub record StayingRun (m : Machine) (start : State) (last : ℕ) (state : ℕ → State) : Type 0 where
  pub begins : state 0 ≡ start
  pub steps : (r : ℕ) → r < last → step m (state r) ≡ goes (state (suc r))
  pub stays : step m (state last) ≡ goes (state last)

-- what the machine comes to after r steps
abbrev pub proceed : Machine → Outcome → Outcome
proceed m (goes s) = step m s
proceed m (stuck rule) = stuck rule

unfoldable pub after : Machine → State → ℕ → Outcome
after m s zero = goes s
after m s (suc r) = proceed m (after m s r)
