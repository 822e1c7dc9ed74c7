-- `digit::decimal_value` meets its contract: each arm has the tests that led there.
use native.Mathlib.Omega.{arith}
use borrow.Author.Rules.{rules}
use borrow.Author.Tests.{lt-ltb, le-ltb}
use Rattle.text_fields.specs.Digit.{decimal_value}
use Rattle.text_fields.proofs.Tests.{tests}
use Rattle.text_fields.proofs.digit.decimal_value.Goals as goal

pub returns-in-48-to-57 : goal.returns-in-48-to-57
unfolding decimal_value
returns-in-48-to-57 c = rw (le-ltb c.args.byte 48 (omega arith), lt-ltb c.args.byte 58 (omega arith)) (search rules)

pub returns-in_default : goal.returns-in_default
unfolding decimal_value
returns-in_default c = search tests

pub returns-in_default-2 : goal.returns-in_default-2
unfolding decimal_value
returns-in_default-2 c = search tests
