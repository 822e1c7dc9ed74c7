-- The invariant: what is left of the number gives the whole reading.
use mathlib.Core.Path.{sym}
use native.Mathlib.Omega.{arith}
use borrow.Author.Rules.{rules}
use borrow.Author.Tests.{eq-eqb, ne_eqb}
use lib.ListN.{get_or}
use Rattle.text_patterns.specs.Fields.{number}
use Rattle.text_fields.specs.Digit.{decimal_value}
use Rattle.text_fields.proofs.NextDigit.{begins, begins_not, no_number, nothing, goes, halts, ends, over}
use Rattle.text_fields.proofs.One.{read_told}
use Rattle.text_fields.proofs.number.read_number.Goals as goal

pub returns-then-text-at-clause-read : goal.returns-then-text-at-clause-read
returns-then-text-at-clause-read c =
    let a = c.args in
    nothing a.low a.high a.end a.text.now a.at (search rules) (search rules)

pub returns-then-text-at-clause-told : goal.returns-then-text-at-clause-told
returns-then-text-at-clause-told c = read_told _ _ _ _ (returns-then-text-at-clause-read c)

pub returns-in_default-clause-read : goal.returns-in_default-clause-read
returns-in_default-clause-read c =
    let a = c.args in
    no_number a.low a.high a.end a.text.now a.at (search rules) c.in_default.ensures

pub returns-in_default-clause-told : goal.returns-in_default-clause-told
returns-in_default-clause-told c = read_told _ _ _ _ (returns-in_default-clause-read c)

pub returns-then-d-low-clause-read : goal.returns-then-d-low-clause-read
returns-then-d-low-clause-read c =
    let a = c.args in
    begins_not a.low a.high a.end a.text.now a.at c.in-Some.d (search rules) c.in-Some.ensures.0 c.if-d-low.true

pub returns-then-d-low-clause-told : goal.returns-then-d-low-clause-told
returns-then-d-low-clause-told c = read_told _ _ _ _ (returns-then-d-low-clause-read c)

pub loop-i-init : goal.loop-i-init
loop-i-init c =
    let a = c.args in
    begins a.low a.high a.end a.text.now a.at c.in-Some.d (search rules) c.in-Some.ensures.0 c.in-Some.ensures.1 c.if-d-low.false

pub returns-then-byte-end-clause-read : goal.returns-then-byte-end-clause-read
returns-then-byte-end-clause-read c =
    let a = c.args in
    let l = c.loop-i in
    ends (number decimal_value a.low a.high a.end) a.high a.end a.text.now a.at l.i l.x (search rules) l.invariant
    (eq-eqb a.end (get_or a.text.now l.i 0) (sym c.if-byte-end.true))

pub returns-then-byte-end-clause-told : goal.returns-then-byte-end-clause-told
returns-then-byte-end-clause-told c = read_told _ _ _ _ (returns-then-byte-end-clause-read c)

pub returns-in_default-next_digit-clause-read : goal.returns-in_default-next_digit-clause-read
returns-in_default-next_digit-clause-read c =
    let a = c.args in
    let l = c.loop-i in
    halts (number decimal_value a.low a.high a.end) a.high a.end a.text.now a.at l.i l.x (search rules) l.invariant
    (ne_eqb a.end (get_or a.text.now l.i 0) (λ e. c.if-byte-end.false (sym e))) (sym c.in_default-next_digit.ensures)

pub returns-in_default-next_digit-clause-told : goal.returns-in_default-next_digit-clause-told
returns-in_default-next_digit-clause-told c = read_told _ _ _ _ (returns-in_default-next_digit-clause-read c)

pub loop-i-preserved : goal.loop-i-preserved
loop-i-preserved c =
    let a = c.args in
    let l = c.loop-i in
    goes (number decimal_value a.low a.high a.end) a.high a.end a.text.now a.at l.i l.x (search rules) c.in-Some-next_digit.y l.invariant
    (ne_eqb a.end (get_or a.text.now l.i 0) (λ e. c.if-byte-end.false (sym e))) (sym c.in-Some-next_digit.ensures)

pub returns-clause-read : goal.returns-clause-read
returns-clause-read c =
    let a = c.args in
    let l = c.loop-i in
    over (number decimal_value a.low a.high a.end) a.high a.end a.text.now a.at l.i l.x (omega arith) l.invariant

pub returns-clause-told : goal.returns-clause-told
returns-clause-told c = read_told _ _ _ _ (returns-clause-read c)
