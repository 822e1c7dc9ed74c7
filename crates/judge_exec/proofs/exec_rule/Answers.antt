-- Rule 1 is the test of pc.
use borrow.Author.Tests.{lt-ltb, le-ltb}
use Rattle.rules.specs.Execution.{exec_rules}
use Rattle.judge_exec.proofs.exec_rule.Goals as goal

pub returns-then-at-program : goal.returns-then-at-program
unfolding exec_rules
returns-then-at-program c =
    let second = c in
    let first = second in
    let inside = rw first.exec_inside-x.ensures at c.if-at-program.true in
    rw (lt-ltb _ _ inside)
    (rw (c.instruction_inside.ensures, second.exec_inside-y.ensures, second.next_row.ensures.0, first.exec_inside-x.ensures) at c.exec_computed.ensures)

pub returns : goal.returns
unfolding exec_rules
returns c =
    let first = c in
    rw (le-ltb _ _ (rw first.exec_inside-x.ensures at c.if-at-program.false))
