-- By AUX.
use Rattle.judge_exec.proofs.QuickExec.{no_aux, adds, derefs}
use Rattle.judge_exec.proofs.exec_quick.operated.Goals as goal

pub returns-then-i-eq0 : goal.returns-then-i-eq0
returns-then-i-eq0 c e =
    let then1 = c in
    let args = then1.args in
    no_aux args.i args.x args.a args.b args.c then1.if-i-eq0.true (rw c.mul.ensures at e)

pub returns-then-i-eq1 : goal.returns-then-i-eq1
returns-then-i-eq1 c e =
    let then2 = c in
    let args = then2.args in
    adds args.i args.x args.a args.b args.c then2.if-i-eq1.true (rw c.add.ensures at e)

pub returns : goal.returns
returns c e =
    let after = c in
    let args = after.args in
    derefs args.i args.x args.a args.b args.c (rw after.add-2.ensures at e)
