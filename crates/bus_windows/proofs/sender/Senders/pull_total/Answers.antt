-- Before each turn the rows below k are counted.
use mathlib.Core.Path.{◌≡◌, ◌∙◌}
use Prim.Native.Nat.{◌*◌}
use native.Mathlib.Omega.{arith}
use Rattle.rows.specs.Rows.{ext_at}
use Rattle.rules.specs.Bus.{pulls}
use Rattle.bus_tuples.proofs.Totals.{one_more}
use Rattle.bus_tuples.proofs.TimesLaws.{right_flags, at_most_three}
use Rattle.bus_windows.specs.Senders.{tables_of, pull_times}
use Rattle.bus_windows.proofs.sender.Senders.pull_total.Goals as goal

pub loop-k-preserved : goal.loop-k-preserved
loop-k-preserved c =
    let self = c.args.self.now in
    let loop = c.loop-k in
    let row = ext_at self.ext.now (120 * loop.k) in
    let flags = self.flagged loop.k (omega arith) in
    let times : c.pull_times.result ≡ pulls row = c.pull_times.ensures ∙ right_flags row flags in
    let few = at_most_three row flags in
    record { few = omega (arith, times, few); is = omega (arith, times, loop.invariant.is, one_more (pull_times (tables_of self)) loop.k) }
