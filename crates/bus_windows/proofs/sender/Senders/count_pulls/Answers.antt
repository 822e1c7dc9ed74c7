-- Before each turn every push and the pulls below k are counted.
use mathlib.Core.Path.{◌≡◌}
use lib.ListN.{length}
use Prim.Native.Nat.{◌+◌, ◌/◌}
use native.Mathlib.Omega.{arith}
use Rattle.bus_windows.specs.Senders.{given_of, tables_of}
use Rattle.bus_windows.proofs.Joined.{send_pull}
use Rattle.bus_windows.proofs.Windows.{countable, counts_nothing, counts_one}
use Rattle.bus_windows.proofs.sender.Senders.count_pulls.Goals as goal
use Rattle.bus_windows.proofs.sender.Senders.count_pulls.Goals.{in-Some, in_default}

pub loop-k-init : goal.loop-k-init
loop-k-init c =
    let h = length c.args.self.now.rows.exec.now / 32 in
    let none : h + 0 ≡ h = omega arith in
    rw none c.requires

pub count_one-requires : goal.count_one-requires
count_one-requires c =
    let self = c.args.self.now in
    countable _ _ _ _ (length self.rows.exec.now / 32 + c.loop-k.k) c.loop-k.invariant (omega (arith, self.exec_short, self.ext_short))

pub loop-k-preserved : goal.loop-k-preserved
loop-k-preserved c =
    let self = c.args.self.now in
    let loop = c.loop-k in
    let h = length self.rows.exec.now / 32 in
    let reads = rw (← send_pull (given_of self) (tables_of self) loop.k) at c.puller.ensures in
    let next : h + (loop.k + 1) ≡ h + loop.k + 1 = omega arith in
    elim c.match-puller.branch [
      | in-Some w ↦
          rw (next, w.net-is, w.count_one.ensures)
          (counts_one _ _ _ _ (h + loop.k) loop.invariant w.in-Some.x (rw w.in-Some.is at reads) (omega (arith, self.exec_short, self.ext_short)))
      | in_default w ↦ rw (next, w.net-is) (counts_nothing _ _ _ _ (h + loop.k) loop.invariant (rw w.in_default.is at reads))
    ]

pub returns : goal.returns
returns c =
    let done : c.loop-k.k ≡ length c.args.self.now.ext.now / 120 = omega arith in
    rw done at c.loop-k.invariant
