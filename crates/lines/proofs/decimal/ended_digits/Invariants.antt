-- `decimal::ended_digits` meets its contract. The invariant: the digits that are left, and then those that stand, are
-- all; and where any stands, some are left.
use Prim.Native.Nat.{◌^◌, ◌<◌}
use mathlib.Core.List.{◌++◌}
use mathlib.Core.Path.{◌≡◌}
use lib.ListN.{length, drop}
use Rattle.lines.specs.Line.{decimal, decimal_in}
use Rattle.lines.proofs.decimal.ended_digits.Given as goal

abbrev pub invariant-loop-i : goal.invariant-loop-i
invariant-loop-i l =
    (l.i < 20 → 0 < l.rest) × (l.rest < 10 ^ l.i) × (length l.bytes ≡ 21) × (decimal l.number ++ drop 20 l.initial.bytes ≡ decimal_in l.i l.rest ++ drop l.i l.bytes)
