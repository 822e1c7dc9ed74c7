-- By the promises of the three calls.
use Rattle.maker.proofs.elements.with_element.Goals as goal

pub returns : goal.returns
returns c = rw (c.with_term.ensures, c.left_at-x.ensures, c.element_at-y.ensures)
