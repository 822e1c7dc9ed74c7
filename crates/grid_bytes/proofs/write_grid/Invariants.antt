-- `grid_bytes::write_grid` meets its contract: the bytes of the counters below k are written.
use mathlib.Core.Path.{◌≡◌}
use Prim.Native.Nat.{◌*◌}
use lib.ListN.{take, length, get_or}
use Rattle.word.specs.Bytes.{concatenated}
use Rattle.long.specs.Long.{long_bytes}
use Rattle.grid_bytes.proofs.write_grid.Given as goal

abbrev pub invariant-loop-k : goal.invariant-loop-k
invariant-loop-k l =
    (length l.bytes ≡ length l.initial.bytes) × (take (8 * l.k) l.bytes ≡ concatenated (λ j. long_bytes (get_or l.fn.grid j 0)) l.k)
