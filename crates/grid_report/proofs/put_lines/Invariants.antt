-- `put_lines` meets its contract. The invariant: the lines below k stand one behind the other.
use Rattle.lines.specs.Putting.{Put}
use Rattle.grid_report.proofs.Counters.{lines_to}
use Rattle.grid_report.proofs.put_lines.Given as goal

abbrev pub invariant-loop-k : goal.invariant-loop-k
invariant-loop-k l = Put l.initial.out (lines_to l.grid l.k) l.out
