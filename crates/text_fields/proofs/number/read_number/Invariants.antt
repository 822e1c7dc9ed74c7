-- The invariant: what is left of the number gives the whole reading.
use Rattle.text_patterns.specs.Fields.{number}
use Rattle.text_fields.specs.Digit.{decimal_value}
use Rattle.text_fields.proofs.NextDigit.{Digits}
use Rattle.text_fields.proofs.number.read_number.Given as goal

abbrev pub invariant-loop-i : goal.invariant-loop-i
invariant-loop-i l = Digits (number decimal_value l.low l.high l.end) l.high l.end l.text l.at l.i l.x
