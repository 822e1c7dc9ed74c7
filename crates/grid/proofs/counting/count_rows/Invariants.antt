-- `grid::counting::count_rows` meets its contract: the counters after r rows, and after those of one pc.
use Prim.Native.Nat.{◌-◌, ◌≤◌}
use Rattle.grid.proofs.RowForms.{CountedTo}
use Rattle.grid.proofs.counting.count_rows.Given as goal

abbrev pub invariant-loop-r : goal.invariant-loop-r
invariant-loop-r l = (l.r ≤ l.height) × CountedTo l.rows.program.now l.rows.exec.now l.initial.grid l.r l.grid

abbrev pub decreases-loop-r : goal.decreases-loop-r
decreases-loop-r l = l.height - l.r
