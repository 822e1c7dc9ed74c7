-- `grid::counting::same_to` meets its contract: the rows from r on have row r's pc.
use Rattle.grid.proofs.RowForms.{SameTo}
use Rattle.grid.proofs.counting.same_to.Given as goal

abbrev pub invariant-loop-end : goal.invariant-loop-end
invariant-loop-end l = SameTo l.exec l.r l.end
