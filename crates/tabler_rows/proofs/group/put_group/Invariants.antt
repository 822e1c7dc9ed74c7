-- At j the rows from j on stand, and comp is what the elements from j on come to.
use mathlib.Core.List.{◌++◌}
use mathlib.Core.Path.{◌≡◌}
use Prim.Native.Nat.{◌*◌}
use lib.ListN.{drop}
use Rattle.word.specs.Bytes.{concatenated}
use Rattle.rules.specs.Sizes.{word_of}
use Rattle.tabler_operands.specs.Elements.{result_from}
use Rattle.tabler_rows.specs.Placed.{ext_bytes, row_in, group_bytes}
use Rattle.tabler_rows.proofs.group.put_group.Given as goal

abbrev pub invariant-loop-j : goal.invariant-loop-j
invariant-loop-j l =
    (l.comp ≡ result_from (word_of l.memory) l.g l.j)
    × (concatenated (λ k. ext_bytes (row_in (word_of l.memory) l.g k)) l.j ++ drop (120 * l.j) l.part ≡ group_bytes (word_of l.memory) l.g)
