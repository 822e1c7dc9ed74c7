-- Comparisons that say yes leave rules 6 to 9; the groups that the code walks are the rules.
use Rattle.rules.specs.Extension.{selected, comp_tail}
use Rattle.judge_lookups.specs.Joined.{joined}
use Rattle.judge_ext.proofs.AllRules.{its_pair, idle, compared}
use Rattle.judge_ext.proofs.ext_failing.Goals as goal

pub returns-then-idle : goal.returns-then-idle
returns-then-idle c =
    let told = c in
    let held = told in
    let paired = held in
    let row = paired in
    let args = row.args in
    let x = row.ext_inside-x.result in
    let y = paired.ext_inside-y.result in
    let other = its_pair args.ext.now args.r paired.ext_inside-y.ensures paired.next_row.ensures.0 row.requires.0 in
    compared args.ext.now args.r (joined args.memory)
    row.ext_inside-x.ensures
    other
    (held.others_hold.ensures told.if-others_hold.true)
    (idle args.ext.now args.r 0 row.ext_inside-x.ensures other (told.idle.ensures c.if-idle.true y (selected x) (comp_tail y) 0))

pub returns-then-others_hold : goal.returns-then-others_hold
returns-then-others_hold c =
    let told = c in
    let held = told in
    let paired = held in
    let row = paired in
    let args = row.args in
    compared args.ext.now args.r (joined args.memory)
    row.ext_inside-x.ensures
    (its_pair args.ext.now args.r paired.ext_inside-y.ensures paired.next_row.ensures.0 row.requires.0)
    (held.others_hold.ensures told.if-others_hold.true)
    c.accumulates.ensures
