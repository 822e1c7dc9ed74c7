-- The groups that the code walks are the rules; each call gives the definition's part.
use mathlib.Core.Path.{refl, ◌∙◌}
use Rattle.rules.specs.Extension.{selected, comp_tail}
use Rattle.judge_lookups.specs.Joined.{joined}
use Rattle.judge_ext.proofs.AllRules.{its_pair, idle, walked}
use Rattle.judge_ext.proofs.extension.ext_rule.Goals as goal
use Rattle.judge_ext.proofs.extension.ext_rule.Goals.{then-idle, else-idle}

pub returns : goal.returns
returns c =
    let sum = c in
    let told = sum in
    let same = told in
    let step = same in
    let paired = step in
    let row = paired in
    let args = row.args in
    let x = row.ext_inside-x.result in
    let y = paired.ext_inside-y.result in
    let other = its_pair args.ext.now args.r paired.ext_inside-y.ensures paired.next_row.ensures.0 refl in
    walked args.ext.now args.r (joined args.memory)
    row.ext_inside-x.ensures
    other
    step.sub-inside.ensures
    step.steps.ensures
    same.sames-inner.ensures
    (elim sum.if-idle.branch [
      | then-idle w ↦
          w.sums-is
          ∙ idle args.ext.now args.r same.sames-inner.result row.ext_inside-x.ensures other
          (told.idle.ensures w.if-idle.true y (selected x) (comp_tail y) same.sames-inner.result)
      | else-idle w ↦ w.sums-is ∙ w.accumulates-sums.ensures
    ])
    c.bits.ensures
    c.ext_lookups.ensures
