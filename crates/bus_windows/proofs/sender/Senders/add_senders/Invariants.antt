-- No more slots are used than there are.
use Prim.Native.Nat.{◌≤◌}
use Rattle.bus_windows.proofs.sender.Senders.add_senders.Given as goal

abbrev pub invariant-loop-j : goal.invariant-loop-j
invariant-loop-j l = l.used ≤ 1024
