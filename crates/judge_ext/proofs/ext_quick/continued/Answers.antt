-- Each rule inside a group compares two words.
use Rattle.judge_ext.proofs.QuickExt.{continues}
use Rattle.judge_ext.proofs.ext_quick.continued.Goals as goal

pub returns : goal.returns
returns c e =
    let sub2 = c in
    let sub = sub2 in
    let args = sub.args in
    continues args.x args.y (rw (c.sub-3.ensures, c.stride.ensures, sub2.sub-2.ensures, sub.sub.ensures) at e)
