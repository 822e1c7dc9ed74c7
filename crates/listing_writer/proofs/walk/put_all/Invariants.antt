-- The invariant: the first i lines stand one behind the other.
use Rattle.lines.specs.Putting.{Put}
use Rattle.listing_writer.proofs.Together.{lines_to}
use Rattle.listing_writer.proofs.walk.put_all.Given as goal

abbrev pub invariant-loop-i : goal.invariant-loop-i
invariant-loop-i l = Put l.initial.out (lines_to l.program l.i) l.out
