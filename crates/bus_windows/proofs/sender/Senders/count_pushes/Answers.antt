-- Before each turn the senders below r are counted: the execution rows come first.
use native.Mathlib.Omega.{arith}
use Rattle.bus_windows.specs.Senders.{given_of, tables_of}
use Rattle.bus_windows.proofs.Joined.{send_push}
use Rattle.bus_windows.proofs.Windows.{countable, counts_nothing, counts_one}
use Rattle.bus_windows.proofs.sender.Senders.count_pushes.Goals as goal
use Rattle.bus_windows.proofs.sender.Senders.count_pushes.Goals.{in-Some, in_default}

pub count_one-requires : goal.count_one-requires
count_one-requires c = countable _ _ _ _ c.loop-r.r c.loop-r.invariant (omega (arith, c.args.self.now.exec_short))

pub loop-r-preserved : goal.loop-r-preserved
loop-r-preserved c =
    let self = c.args.self.now in
    let loop = c.loop-r in
    let reads = rw (← send_push (given_of self) (tables_of self) loop.r (omega arith)) at c.pusher.ensures in
    elim c.match-pusher.branch [
      | in-Some w ↦
          rw (w.net-is, w.count_one.ensures)
          (counts_one _ _ _ _ loop.r loop.invariant w.in-Some.x (rw w.in-Some.is at reads) (omega (arith, self.exec_short)))
      | in_default w ↦ rw w.net-is (counts_nothing _ _ _ _ loop.r loop.invariant (rw w.in_default.is at reads))
    ]
