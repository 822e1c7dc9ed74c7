-- The tests that led to a return pick the same case of `kind_by`; e1 to e4 are the places where a test was false.
use borrow.Author.Tests.{eq-eqb, ne_eqb}
use Rattle.form.proofs.known.kind_by.Goals as goal

pub returns-then-i-eq1 : goal.returns-then-i-eq1
returns-then-i-eq1 c = rw (eq-eqb _ _ c.if-i-eq1.true)

pub returns-then-i-eq2 : goal.returns-then-i-eq2
returns-then-i-eq2 c =
    let e1 = c in
    rw (ne_eqb _ _ e1.if-i-eq1.false, eq-eqb _ _ c.if-i-eq2.true)

pub returns-then-i-eq1-2 : goal.returns-then-i-eq1-2
returns-then-i-eq1-2 c =
    let e2 = c in
    let e1 = e2 in
    rw (ne_eqb _ _ e1.if-i-eq1.false, ne_eqb _ _ e2.if-i-eq2.false, eq-eqb _ _ c.if-i-eq1-2.true)

pub returns-then-i-eq1-3 : goal.returns-then-i-eq1-3
returns-then-i-eq1-3 c =
    let e3 = c in
    let e2 = e3 in
    let e1 = e2 in
    rw (ne_eqb _ _ e1.if-i-eq1.false, ne_eqb _ _ e2.if-i-eq2.false, ne_eqb _ _ e3.if-i-eq1-2.false, eq-eqb _ _ c.if-i-eq1-3.true)

pub returns : goal.returns
returns c =
    let e4 = c in
    let e3 = e4 in
    let e2 = e3 in
    let e1 = e2 in
    rw (ne_eqb _ _ e1.if-i-eq1.false, ne_eqb _ _ e2.if-i-eq2.false, ne_eqb _ _ e3.if-i-eq1-2.false, ne_eqb _ _ e4.if-i-eq1-3.false) c.extension_by.ensures
