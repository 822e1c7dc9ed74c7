-- Pushes and pulls that match, in order or in rounds, leave no tuple unequal.
use mathlib.Core.List.{[]}
use mathlib.Core.Path.{◌≡◌, sym, ap, ◌∙◌}
use Prim.Native.Nat.{◌/◌, ◌≤◌}
use native.Mathlib.Omega.{arith}
use lib.ListN.{length}
use Rattle.rules.specs.Bus.{pulled_to}
use Rattle.rules.specs.Sizes.{given, tables}
use Rattle.bus_tuples.specs.Order.{next_pull, pulled_by}
use Rattle.bus_tuples.proofs.OrderLaws.{next_low, next_passes, in_order}
use Rattle.judge.proofs.Balances.{all_equal}
use Rattle.judge.proofs.bus.bus_answer.Goals as goal

pub returns-then-next_pull-ext : goal.returns-then-next_pull-ext
returns-then-next_pull-ext c =
    let start = c in
    let program = start.args.program.now in
    let exec = start.args.exec.now in
    let ext = start.args.ext.now in
    let k = pulled_by program exec ext (length exec / 32) in
    let listed = start.requires.listed in
    let left : next_pull ext k ≡ length ext / 120 = sym (rw start.requires.pulled_value at c.next_pull.ensures) ∙ c.if-next_pull-ext.true in
    let few : k ≤ length ext / 120 = omega (arith, next_low ext k) in
    all_equal (given program []) (tables exec ext)
    (λ σ. in_order program exec ext listed.formed (length exec / 32) listed.inside few σ ∙ sym (next_passes ext k σ) ∙ ap (pulled_to (tables [] ext) σ) left)

pub returns : goal.returns
returns c =
    let start = c in
    all_equal (given start.args.program.now []) (tables start.args.exec.now start.args.ext.now)
    (c.pairs_up.ensures (c.if-not-pairs_up.false))

pub returns-then-not-pairs_up : goal.returns-then-not-pairs_up
returns-then-not-pairs_up c = c.count_bus.ensures
