-- J is 0 or 1.
use Rattle.judge_exec.proofs.QuickExec.{goes_on, jumps_to}
use Rattle.judge_exec.proofs.exec_quick.moved.Goals as goal

pub returns-then-j-eq0 : goal.returns-then-j-eq0
returns-then-j-eq0 c e =
    let after = c in
    let args = after.args in
    goes_on args.j args.x args.y args.a args.b args.c after.if-j-eq0.true (rw after.add.ensures at e)

pub returns : goal.returns
returns c e =
    let args = c.args in
    jumps_to args.j args.x args.y args.a args.b args.c e
