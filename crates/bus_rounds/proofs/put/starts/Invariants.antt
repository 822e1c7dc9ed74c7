-- No more rows are counted than are passed.
use Prim.Native.Nat.{◌≤◌}
use Rattle.bus_rounds.proofs.put.starts.Given as goal

abbrev pub invariant-loop-k : goal.invariant-loop-k
invariant-loop-k l = l.found ≤ l.k
