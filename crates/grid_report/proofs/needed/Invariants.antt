-- `needed` meets its contract. The invariant: the size is that of the lines below k.
use Prim.Native.Nat.{◌*◌, ◌≤◌}
use mathlib.Core.Path.{◌≡◌}
use lib.ListN.{length}
use Rattle.grid_report.proofs.Counters.{lines_to}
use Rattle.grid_report.proofs.needed.Given as goal

abbrev pub invariant-loop-k : goal.invariant-loop-k
invariant-loop-k l = (length l.longest ≡ 42) × (l.size ≤ 42 * l.k) × (l.size ≡ length (lines_to l.grid l.k))
