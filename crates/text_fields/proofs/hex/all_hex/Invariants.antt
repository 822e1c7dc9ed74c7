-- The invariant: the tests so far are those of the digits passed.
use mathlib.Core.Path.{◌≡◌}
use Rattle.text_fields.specs.Digit.{every, hex_at}
use Rattle.text_fields.proofs.hex.all_hex.Given as goal

abbrev pub invariant-loop-k : goal.invariant-loop-k
invariant-loop-k l = l.good ≡ every (hex_at l.text l.at) l.k
