-- The invariant: what is left of the number and the bytes that stand make the line.
use mathlib.Core.List.{◌++◌}
use mathlib.Core.Path.{◌≡◌}
use lib.ListN.{length, drop}
use Rattle.lines.specs.Line.{line}
use Rattle.label.specs.Label.{hex_digits}
use Rattle.label.proofs.writer.hex_line.Given as goal

abbrev pub invariant-loop-i : goal.invariant-loop-i
invariant-loop-i l =
    (length l.bytes ≡ 17) × (hex_digits l.i l.rest ++ drop l.i l.bytes ≡ line (hex_digits 16 l.seed))
