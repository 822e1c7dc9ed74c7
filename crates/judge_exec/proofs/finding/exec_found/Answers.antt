-- By the rule's number.
use borrow.Author.Tests.{ne_eqb}
use native.Mathlib.Omega.{arith}
use Rattle.rules.specs.Lookups.{found_under}
use Rattle.judge_exec.proofs.finding.exec_found.Goals as goal

pub returns-in-2 : goal.returns-in-2
unfolding found_under
returns-in-2 c = rw c.in-2.is (rw c.exec_inside-x.ensures at c.found_one.ensures)

pub returns-in-3 : goal.returns-in-3
unfolding found_under
returns-in-3 c = rw c.in-3.is (rw c.exec_inside-x.ensures at c.found_one-in-3.ensures)

pub returns-in-4 : goal.returns-in-4
unfolding found_under
returns-in-4 c = rw c.in-4.is (rw c.exec_inside-x.ensures at c.found_one-in-4.ensures)

pub returns-in_default : goal.returns-in_default
unfolding found_under
returns-in_default c =
    rw (ne_eqb 2 c.args.rule (λ e. omega arith), ne_eqb 3 c.args.rule (λ e. omega arith), ne_eqb 4 c.args.rule (λ e. omega arith))
    c.nothing.ensures
