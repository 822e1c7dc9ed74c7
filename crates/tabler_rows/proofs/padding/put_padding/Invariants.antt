-- At j the rows before j stand.
use mathlib.Core.Path.{◌≡◌}
use Prim.Native.Nat.{◌*◌}
use lib.ListN.{take}
use Rattle.word.specs.Bytes.{concatenated}
use Rattle.rules.specs.Sizes.{word_of}
use Rattle.tables.specs.Groups.{padding}
use Rattle.tabler_rows.specs.Placed.{ext_bytes}
use Rattle.tabler_rows.proofs.padding.put_padding.Given as goal

abbrev pub invariant-loop-j : goal.invariant-loop-j
invariant-loop-j l = take (120 * l.j) l.part ≡ concatenated (λ j. ext_bytes (padding (word_of l.memory))) l.j
