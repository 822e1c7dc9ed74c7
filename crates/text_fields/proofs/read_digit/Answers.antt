-- The digit's test fails or holds.
use borrow.Author.Rules.{rules}
use Rattle.text_fields.specs.Digit.{decimal_value}
use Rattle.text_fields.proofs.OneDigit.{no_byte, no_digit, other_digit, digit_read}
use Rattle.text_fields.proofs.One.{read_told}
use Rattle.text_fields.proofs.read_digit.Goals as goal

pub returns-then-text-at-clause-read : goal.returns-then-text-at-clause-read
returns-then-text-at-clause-read c =
    let a = c.args in
    no_byte decimal_value a.low a.high a.text.now a.at (search rules) (search rules)

pub returns-then-text-at-clause-told : goal.returns-then-text-at-clause-told
returns-then-text-at-clause-told c = read_told _ _ _ _ (returns-then-text-at-clause-read c)

pub returns-in_default-clause-read : goal.returns-in_default-clause-read
returns-in_default-clause-read c =
    let a = c.args in
    no_digit decimal_value a.low a.high a.text.now a.at 10 (search rules) (search rules) c.in_default.ensures

pub returns-in_default-clause-told : goal.returns-in_default-clause-told
returns-in_default-clause-told c = read_told _ _ _ _ (returns-in_default-clause-read c)

pub returns-then-d-low-clause-read : goal.returns-then-d-low-clause-read
returns-then-d-low-clause-read c =
    let a = c.args in
    other_digit decimal_value a.low a.high a.text.now a.at c.in-Some.d (search rules) c.in-Some.ensures.0 c.if-d-low.true

pub returns-then-d-low-clause-told : goal.returns-then-d-low-clause-told
returns-then-d-low-clause-told c = read_told _ _ _ _ (returns-then-d-low-clause-read c)

pub returns-clause-read : goal.returns-clause-read
returns-clause-read c =
    let a = c.args in
    digit_read decimal_value a.low a.high a.text.now a.at c.in-Some.d (search rules) c.in-Some.ensures.0 c.if-d-low.false

pub returns-clause-told : goal.returns-clause-told
returns-clause-told c = read_told _ _ _ _ (returns-clause-read c)
