-- Before each turn the rows below r are counted.
use mathlib.Core.Path.{◌≡◌}
use Prim.Native.Nat.{◌≤◌}
use Rattle.rules.specs.Bus.{total}
use Rattle.bus_windows.specs.Senders.{given_of, tables_of, push_times}
use Rattle.bus_windows.proofs.sender.Senders.push_total.Given as goal

abbrev pub invariant-loop-r : goal.invariant-loop-r
invariant-loop-r l = record { few : l.n ≤ l.r; is : l.n ≡ total (push_times (given_of l.self) (tables_of l.self)) l.r }
