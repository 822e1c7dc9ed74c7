-- Before each turn every push and the pulls below k are counted.
use lib.ListN.{length}
use Prim.Native.Nat.{◌+◌, ◌/◌}
use Rattle.bus_windows.specs.Senders.{given_of, tables_of}
use Rattle.bus_windows.specs.Window.{Counted}
use Rattle.bus_windows.proofs.sender.Senders.count_pulls.Given as goal

abbrev pub invariant-loop-k : goal.invariant-loop-k
invariant-loop-k l = Counted (given_of l.self) (tables_of l.self) l.window l.net (length l.self.rows.exec.now / 32 + l.k)
