-- A shut gate leaves 0, and so do equal words; else the product is the definition's.
use Rattle.word.proofs.WordLaws.{product_zero, difference_self}
use Rattle.judge_lookups.proofs.Quick.{shut}
use Rattle.judge_lookups.proofs.gated.Goals as goal

pub returns-then-gate-eq0 : goal.returns-then-gate-eq0
returns-then-gate-eq0 c = rw (c.if-gate-eq0.true, shut)

pub returns-then-x-y : goal.returns-then-x-y
returns-then-x-y c = rw (c.if-x-y.true, difference_self, product_zero)

pub returns : goal.returns
returns c = rw (c.mul.ensures, c.sub.ensures)
