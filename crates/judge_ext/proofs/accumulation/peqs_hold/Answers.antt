-- A flag of 0 leaves nothing of the element; else each step is the definition's.
use Rattle.word.proofs.ElementLaws.{scale_zero}
use Rattle.judge_ext.proofs.accumulation.peqs_hold.Goals as goal

pub returns-then-flag-eq0 : goal.returns-then-flag-eq0
returns-then-flag-eq0 c = rw (c.if-flag-eq0.true, scale_zero)

pub returns : goal.returns
returns c = rw (c.gated_elements.ensures, c.product.ensures, c.sum.ensures, c.peq.ensures)
