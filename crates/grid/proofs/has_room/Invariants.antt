-- `grid::has_room` meets its contract: what is left of the limit goes down by a counter at a time.
use mathlib.Core.Path.{◌≡◌}
use Prim.Native.Nat.{◌+◌}
use lib.ListN.{take}
use Rattle.grid_spec.specs.Grid.{sum_of, limit}
use Rattle.grid.proofs.has_room.Given as goal

abbrev pub invariant-loop-x : goal.invariant-loop-x
invariant-loop-x l = l.left + sum_of (take l.x-index l.fn.grid) + l.rows ≡ limit
