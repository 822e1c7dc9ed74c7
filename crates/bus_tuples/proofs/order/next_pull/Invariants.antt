-- What is left to pass gives the whole answer; from a row past the end nothing is passed.
use mathlib.Core.Path.{◌≡◌}
use Prim.Native.Nat.{◌<◌}
use Rattle.bus_tuples.specs.Order.{next_pull}
use Rattle.bus_tuples.proofs.order.next_pull.Given as goal

abbrev pub invariant-loop-k : goal.invariant-loop-k
invariant-loop-k l = record { left : next_pull l.ext l.from ≡ next_pull l.ext l.k; past : l.n < l.from → l.k ≡ l.from }
