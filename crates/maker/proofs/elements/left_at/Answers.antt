-- The one cell with be, and else the element that `element_at` gives.
use Rattle.maker.proofs.elements.left_at.Goals as goal

pub returns-then-be : goal.returns-then-be
returns-then-be c = rw c.if-be.true

pub returns : goal.returns
returns c = rw c.if-be.false c.element_at.ensures
