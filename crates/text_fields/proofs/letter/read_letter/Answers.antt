-- The letter's test fails or holds.
use borrow.Author.Rules.{rules}
use lib.ListN.{length, get_or}
use Rattle.text_fields.specs.Digit.{index_in}
use Rattle.std.specs.Prelude.{Some, None}
use Rattle.text_fields.proofs.Letters.{first_place}
use Rattle.text_fields.proofs.OneDigit.{no_byte, no_digit, other_digit, digit_read}
use Rattle.text_fields.proofs.One.{read_told}
use Rattle.text_fields.proofs.letter.read_letter.Goals as goal

pub returns-then-text-at-clause-read : goal.returns-then-text-at-clause-read
returns-then-text-at-clause-read c =
    let a = c.args in
    no_byte (index_in a.letters.now) a.low a.high a.text.now a.at (search rules) (search rules)

pub returns-then-text-at-clause-told : goal.returns-then-text-at-clause-told
returns-then-text-at-clause-told c = read_told _ _ _ _ (returns-then-text-at-clause-read c)

pub returns-in_default-clause-read : goal.returns-in_default-clause-read
returns-in_default-clause-read c =
    let a = c.args in
    let none = first_place a.letters.now (get_or a.text.now a.at 0) None c.in_default.ensures in
    no_digit (index_in a.letters.now) a.low a.high a.text.now a.at (length a.letters.now) (search rules) (search rules) none

pub returns-in_default-clause-told : goal.returns-in_default-clause-told
returns-in_default-clause-told c = read_told _ _ _ _ (returns-in_default-clause-read c)

pub returns-then-d-low-clause-read : goal.returns-then-d-low-clause-read
returns-then-d-low-clause-read c =
    let a = c.args in
    let d = c.in-Some.number in
    let is = first_place a.letters.now (get_or a.text.now a.at 0) (Some d) c.in-Some.ensures in
    other_digit (index_in a.letters.now) a.low a.high a.text.now a.at d (search rules) is.0 c.if-d-low.true

pub returns-then-d-low-clause-told : goal.returns-then-d-low-clause-told
returns-then-d-low-clause-told c = read_told _ _ _ _ (returns-then-d-low-clause-read c)

pub returns-clause-read : goal.returns-clause-read
returns-clause-read c =
    let a = c.args in
    let d = c.in-Some.number in
    let is = first_place a.letters.now (get_or a.text.now a.at 0) (Some d) c.in-Some.ensures in
    digit_read (index_in a.letters.now) a.low a.high a.text.now a.at d (search rules) is.0 c.if-d-low.false

pub returns-clause-told : goal.returns-clause-told
returns-clause-told c = read_told _ _ _ _ (returns-clause-read c)
