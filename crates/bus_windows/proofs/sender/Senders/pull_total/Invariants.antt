-- Before each turn the rows below k are counted.
use mathlib.Core.Path.{◌≡◌}
use Prim.Native.Nat.{◌*◌, ◌≤◌}
use Rattle.rules.specs.Bus.{total}
use Rattle.bus_windows.specs.Senders.{tables_of, pull_times}
use Rattle.bus_windows.proofs.sender.Senders.pull_total.Given as goal

abbrev pub invariant-loop-k : goal.invariant-loop-k
invariant-loop-k l = record { few : l.n ≤ 3 * l.k; is : l.n ≡ total (pull_times (tables_of l.self)) l.k }
