-- The invariant: the size is that of the first i lines.
use Prim.Native.Nat.{◌*◌, ◌≤◌}
use mathlib.Core.Path.{◌≡◌}
use lib.ListN.{length}
use Rattle.listing_writer.proofs.Together.{lines_to}
use Rattle.listing_writer.proofs.walk.needed.Given as goal

abbrev pub invariant-loop-i : goal.invariant-loop-i
invariant-loop-i l =
    (l.size ≤ 80 * l.i) × (l.size ≡ length (lines_to l.program l.i))
