-- The bit of the tuple's mark.
use Rattle.bus_search.specs.Marks.{is_marked}
use Rattle.bus_search.proofs.marks.is_marked.Goals as goal

pub returns : goal.returns
unfolding is_marked
returns c = rw c.mark_of-m.ensures.0
