-- Inner: marks of the tuples that a window holds: a bit for each, in 256 numbers of 64 bits. Whatever the marks are,
-- counting is right.
use Rattle.std.specs.Prelude.{ℕ, ◌+◌, ◌/◌, ◌%◌, ◌^◌, Bool, cond, List, ◌==◌, slice_index, slice_set}
use Rattle.rules.specs.Bus.{Tuple}
use Rattle.bus_tuples.specs.Sent.{hash_of}

unfoldable pub mark_of : Tuple → ℕ
mark_of σ = hash_of σ / 1048576 % 16384

unfoldable pub is_marked : List ℕ → Tuple → Bool
is_marked marks σ = slice_index marks (mark_of σ / 64) / 2 ^ (mark_of σ % 64) % 2 == 1

unfoldable pub with_mark : List ℕ → Tuple → List ℕ
with_mark marks σ =
    cond (is_marked marks σ) marks
    (slice_set marks (mark_of σ / 64) ((slice_index marks (mark_of σ / 64) + 2 ^ (mark_of σ % 64)) % 2 ^ 64))
