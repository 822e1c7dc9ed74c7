-- What is left to pass gives the whole answer.
use borrow.Author.Tests.{eq-eqb, ne_eqb}
use mathlib.Core.Path.{◌≡◌, sym, ◌∙◌}
use Prim.Native.Nat.{◌*◌, ◌/◌, max}
use native.Mathlib.Omega.{arith}
use lib.ListN.{length}
use Rattle.std.proofs.Math.Nat.{sub-add-eq-max}
use Rattle.rows.specs.Rows.{ext_at}
use Rattle.judge_spec.proofs.FirstLaws.{stops, goes_on, ends}
use Rattle.bus_tuples.specs.Times.{pull_count}
use Rattle.bus_tuples.specs.Order.{pulls_none, next_pull}
use Rattle.bus_tuples.proofs.order.next_pull.Goals as goal

pub returns-then-pull_times-ne0 : goal.returns-then-pull_times-ne0
unfolding next_pull
returns-then-pull_times-ne0 c =
    let loop = c.loop-k in
    let ext = c.args.ext.now in
    let row = pull_count (ext_at ext (120 * loop.k)) in
    let fails = ne_eqb row 0 (λ e. c.if-pull_times-ne0.true (c.pull_times.ensures ∙ e)) in
    sym (loop.invariant.left ∙ stops (pulls_none ext) loop.k (length ext / 120) (omega arith) fails)

pub loop-k-preserved : goal.loop-k-preserved
unfolding next_pull
loop-k-preserved c =
    let loop = c.loop-k in
    let ext = c.args.ext.now in
    let row = pull_count (ext_at ext (120 * loop.k)) in
    let passes = eq-eqb row 0 (sym c.pull_times.ensures ∙ c.if-pull_times-ne0.false) in
    record {
      left = loop.invariant.left ∙ goes_on (pulls_none ext) loop.k (length ext / 120) (omega arith) passes;
      past = λ past. absurd (omega arith);
    }

pub returns : goal.returns
unfolding next_pull
returns c =
    let loop = c.loop-k in
    let ext = c.args.ext.now in
    let at : max c.args.from (length ext / 120) ≡ loop.k = grind (arith, sub-add-eq-max c.args.from (length ext / 120), loop.invariant.past) in
    c.max.ensures ∙ at ∙ sym (loop.invariant.left ∙ ends (pulls_none ext) loop.k (length ext / 120) (omega arith))
