-- By the next row's start.
use borrow.Author.Tests.{eqb-true}
use Rattle.judge_lookups.proofs.Quick.{never}
use Rattle.judge_ext.proofs.QuickExt.{starts, goes_on}
use Rattle.judge_ext.proofs.ext_quick.followed.Goals as goal

pub returns-then-y-eq1 : goal.returns-then-y-eq1
returns-then-y-eq1 c e =
    let then1 = c in
    let args = then1.args in
    starts args.x args.y then1.if-y-eq1.true (eqb-true _ _ e)

pub returns-then-y-eq0 : goal.returns-then-y-eq0
returns-then-y-eq0 c e =
    let then2 = c in
    let args = then2.args in
    goes_on args.x args.y then2.if-y-eq0.true (c.continued.ensures e)

pub returns : goal.returns
returns c = never
