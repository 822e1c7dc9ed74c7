-- The invariant: what is left of the digits gives the whole reading, and the number so far fits.
use Prim.Native.Nat.{◌+◌, ◌-◌, ◌^◌, ◌≤◌, ◌<◌}
use mathlib.Core.Path.{◌≡◌}
use lib.ListN.{length, drop}
use Rattle.text_patterns.specs.Pattern.{parse}
use Rattle.text_patterns.specs.Fields.{digits}
use Rattle.text_fields.specs.Digit.{hex_value}
use Rattle.text_fields.proofs.hex.hex_by_digit.Given as goal

abbrev pub invariant-loop-k : goal.invariant-loop-k
invariant-loop-k l =
    (l.at + l.k ≤ length l.text) × (l.x < 16 ^ l.k) × (parse (digits 16 hex_value 16 0) (drop l.at l.text) ≡ parse (digits 16 hex_value (16 - l.k) l.x) (drop (l.at + l.k) l.text))
