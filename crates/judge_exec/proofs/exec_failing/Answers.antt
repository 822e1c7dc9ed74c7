-- Rule 1 is the test of pc; comparisons that say yes leave 0.
use borrow.Author.Tests.{lt-ltb, le-ltb}
use mathlib.Core.Path.{sym}
use Rattle.rules.specs.Execution.{exec_rules}
use Rattle.judge_exec.proofs.exec_failing.Goals as goal

pub returns-then-program-pc : goal.returns-then-program-pc
unfolding exec_rules
returns-then-program-pc c =
    let rows = c.requires.x_value in
    rw (← rows.0, ← rows.1, le-ltb _ _ c.if-program-pc.true)

pub returns-then-exec_holds : goal.returns-then-exec_holds
unfolding exec_rules
returns-then-exec_holds c =
    let read = c in
    let rows = read.requires.x_value in
    rw (← rows.0, ← rows.1, lt-ltb _ _ read.if-program-pc.false)
    (sym (rw read.instruction_inside.ensures at (c.exec_holds.ensures c.if-exec_holds.true)))
