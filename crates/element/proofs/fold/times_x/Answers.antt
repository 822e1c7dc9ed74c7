-- `element::fold::times_x` meets its contract: word by word, by the promise of sub.
-- Assumes nothing.
use Rattle.element.specs.Sums.{times_x}
use Rattle.element.proofs.fold.times_x.Goals as goal

pub returns : goal.returns
unfolding times_x
returns c = rw c.sub.ensures
