-- The invariant: what is left of the digits gives the whole reading, and the number so far fits.
use Prim.Native.Nat.{◌+◌, ◌-◌, ◌^◌, ◌<◌}
use mathlib.Core.Path.{◌≡◌}
use lib.ListN.{drop}
use Rattle.text_patterns.specs.Pattern.{parse}
use Rattle.text_patterns.specs.Fields.{digits}
use Rattle.text_fields.specs.Digit.{hex_value}
use Rattle.text_fields.proofs.hex.hex_number.Given as goal

abbrev pub invariant-loop-i : goal.invariant-loop-i
invariant-loop-i l =
    (l.x < 16 ^ l.i) × (parse (digits 16 hex_value 16 0) (drop l.at l.text) ≡ parse (digits 16 hex_value (16 - l.i) l.x) (drop (l.at + l.i) l.text))
