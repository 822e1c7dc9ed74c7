-- The definition's quotient and remainder.
use Rattle.std.proofs.Common.{arith}
use Rattle.bus_search.specs.Marks.{mark_of}
use Rattle.bus_search.proofs.marks.mark_of.Goals as goal

pub returns : goal.returns
unfolding mark_of
returns c = (rw c.hash.ensures, omega arith)
