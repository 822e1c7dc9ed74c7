-- What is left of the search gives the whole answer, and each window leaves less.
use mathlib.Core.Path.{◌≡◌}
use Prim.Native.Nat.{◌-◌, ◌≤◌}
use Rattle.judge_spec.specs.First.{first}
use Rattle.bus_windows.specs.Senders.{given_of, tables_of, equal_at}
use Rattle.bus_windows.proofs.sender.Senders.first_unequal.Given as goal

abbrev pub invariant-loop-j : goal.invariant-loop-j
invariant-loop-j l =
    let equal = equal_at (given_of l.self) (tables_of l.self) in
    record { within : l.j ≤ l.to; left : first equal l.from (l.to - l.from) ≡ first equal l.j (l.to - l.j) }

abbrev pub decreases-loop-j : goal.decreases-loop-j
decreases-loop-j l = l.to - l.j
