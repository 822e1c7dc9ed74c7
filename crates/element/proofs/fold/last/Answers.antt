-- `element::fold::last` meets its contract: with room the sum is the same modulo p.
-- Assumes nothing.
use Rattle.element.proofs.fold.last.Goals as goal

pub returns : goal.returns
returns c = rw (c.reduced.ensures.0, c.more.ensures.0, c.with_room.ensures.0)
