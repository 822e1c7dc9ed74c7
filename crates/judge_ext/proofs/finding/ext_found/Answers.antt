-- By the rule's number.
use borrow.Author.Tests.{ne_eqb}
use native.Mathlib.Omega.{arith}
use Rattle.rules.specs.Lookups.{found_under}
use Rattle.judge_ext.proofs.finding.ext_found.Goals as goal

pub returns-in-18 : goal.returns-in-18
unfolding found_under
returns-in-18 c = rw c.in-18.is (rw c.ext_inside-x.ensures at c.found_one.ensures)

pub returns-in-19 : goal.returns-in-19
unfolding found_under
returns-in-19 c = rw c.in-19.is (rw c.ext_inside-x.ensures at c.found_five.ensures)

pub returns-in-20 : goal.returns-in-20
unfolding found_under
returns-in-20 c = rw c.in-20.is (rw c.ext_inside-x.ensures at c.found_five-in-20.ensures)

pub returns-in-21 : goal.returns-in-21
unfolding found_under
returns-in-21 c = rw c.in-21.is (rw c.ext_inside-x.ensures at c.found_five-in-21.ensures)

pub returns-in_default : goal.returns-in_default
unfolding found_under
returns-in_default c =
    let rule = c.args.rule in
    rw (
      ne_eqb 18 rule (λ e. omega arith),
      ne_eqb 19 rule (λ e. omega arith),
      ne_eqb 20 rule (λ e. omega arith),
      ne_eqb 21 rule (λ e. omega arith),
    )
    c.nothing.ensures
