-- By the test of the next pull.
use mathlib.Core.Path.{ap, ◌∙◌}
use mathlib.Core.Bool.{true, false}
use native.Mathlib.Omega.{arith}
use Rattle.rules.specs.Bus.{same_tuple}
use Rattle.bus_tuples.specs.Sent.{tuple_of}
use Rattle.bus_tuples.proofs.OrderLaws.{after_none, after_some}
use Rattle.bus_tuples.proofs.Tuples.{equal_same}
use Rattle.bus_tuples.proofs.order.after_pull.Goals as goal

pub returns-then-n-at : goal.returns-then-n-at
returns-then-n-at c =
    let start = c in
    let next = c.next_pull-at in
    after_none start.args.ext.now start.args.k (tuple_of start.args.t) next.result next.ensures (omega arith)

pub returns-then-pull_times-eq : goal.returns-then-pull_times-eq
returns-then-pull_times-eq c =
    let start = c in
    let next = c.next_pull-at in
    let times = c.pull_times in
    let read = c.tuple_at in
    let alike = c.eq in
    let τ = tuple_of start.args.t in
    after_some start.args.ext.now start.args.k τ next.result times.result alike.result true
    next.ensures (omega arith) times.ensures (alike.ensures ∙ equal_same c.tuple_at.result start.args.t ∙ ap (λ σ. same_tuple σ τ) read.ensures) c.if-pull_times-eq.true

pub returns : goal.returns
returns c =
    let start = c in
    let next = c.next_pull-at in
    let times = c.pull_times in
    let read = c.tuple_at in
    let alike = c.eq in
    let τ = tuple_of start.args.t in
    after_some start.args.ext.now start.args.k τ next.result times.result alike.result false
    next.ensures (omega arith) times.ensures (alike.ensures ∙ equal_same c.tuple_at.result start.args.t ∙ ap (λ σ. same_tuple σ τ) read.ensures) c.if-pull_times-eq.false
