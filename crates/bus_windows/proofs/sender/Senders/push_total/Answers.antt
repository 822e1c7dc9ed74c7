-- Before each turn the rows below r are counted.
use native.Mathlib.Omega.{arith}
use Rattle.bus_tuples.proofs.Totals.{one_more}
use Rattle.bus_windows.specs.Senders.{given_of, tables_of, push_times}
use Rattle.bus_windows.proofs.sender.Senders.push_total.Goals as goal
use Rattle.bus_windows.proofs.sender.Senders.push_total.Goals.{then-row_pushes, else-row_pushes}

pub loop-r-preserved : goal.loop-r-preserved
loop-r-preserved c =
    let self = c.args.self.now in
    let loop = c.loop-r in
    let more = one_more (push_times (given_of self) (tables_of self)) loop.r in
    elim c.if-row_pushes.branch [
      | then-row_pushes w ↦ record { few = omega arith; is = omega (arith, more, loop.invariant.is, rw w.if-row_pushes.true at c.row_pushes.ensures) }
      | else-row_pushes w ↦ record { few = omega arith; is = omega (arith, more, loop.invariant.is, rw w.if-row_pushes.false at c.row_pushes.ensures) }
    ]
