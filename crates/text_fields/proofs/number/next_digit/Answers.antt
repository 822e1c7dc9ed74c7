-- Each return has the tests that led there.
use Rattle.text_fields.specs.Digit.{next_digit}
use Rattle.text_fields.proofs.Tests.{tests}
use Rattle.text_fields.proofs.number.next_digit.Goals as goal

pub returns-in_err-d : goal.returns-in_err-d
unfolding next_digit
returns-in_err-d c = search tests

pub returns-then-y-high : goal.returns-then-y-high
unfolding next_digit
returns-then-y-high c = rw (← c.in_ok-d.ensures.0) (search tests)

pub returns-else-y-high : goal.returns-else-y-high
unfolding next_digit
returns-else-y-high c = rw (← c.in_ok-d.ensures.0) (search tests)

pub returns-else-x-gt0 : goal.returns-else-x-gt0
unfolding next_digit
returns-else-x-gt0 c = rw (← c.in_ok-d.ensures.0) (search tests)
