-- By whether the two are equal.
use borrow.Author.Tests.{eq-eqb, ne_eqb}
use Rattle.judge_lookups.proofs.finding.compared.Goals as goal

pub returns-then-found-expected : goal.returns-then-found-expected
returns-then-found-expected c = rw (eq-eqb _ _ c.if-found-expected.true)

pub returns : goal.returns
returns c = rw (ne_eqb _ _ c.if-found-expected.false)
