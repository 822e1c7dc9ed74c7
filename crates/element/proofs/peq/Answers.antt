-- `word::element::peq` meets its contract: two times the product, and 1, less both.
-- Assumes nothing.
use Rattle.element.proofs.DifferenceLaws.{peq_once}
use Rattle.element.proofs.peq.Goals as goal

pub returns : goal.returns
returns c =
    rw (c.difference.ensures, c.sum-3.ensures, c.sum-2.ensures, c.sum.ensures, c.product-c.ensures)
    (peq_once _ _)
