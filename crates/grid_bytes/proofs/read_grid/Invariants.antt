-- `grid_bytes::read_grid` meets its contract: the counters below k are read.
use mathlib.Core.Path.{◌≡◌}
use mathlib.Core.List.{[], ◌∷◌}
use Prim.Native.Nat.{◌*◌}
use lib.ListN.{take, length}
use Rattle.word.specs.Bytes.{concatenated}
use Rattle.long.specs.Long.{long_at}
use Rattle.grid_bytes.proofs.read_grid.Given as goal

abbrev pub invariant-loop-k : goal.invariant-loop-k
invariant-loop-k l = (length l.grid ≡ 135) × (take l.k l.grid ≡ concatenated (λ j. long_at l.bytes (8 * j) ∷ []) l.k)
