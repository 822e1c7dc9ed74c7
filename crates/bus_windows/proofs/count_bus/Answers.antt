-- Each answer is the case of the tests that led to it.
use mathlib.Core.Path.{sym, ◌∙◌}
use mathlib.Core.List.{[]}
use native.Mathlib.Omega.{arith}
use Rattle.rules.specs.Sizes.{given, tables}
use Rattle.bus_windows.proofs.Answered.{pull_past, push_found, same_totals, pull_found, none_found}
use Rattle.bus_windows.proofs.count_bus.Goals as goal

pub returns-in-Some : goal.returns-in-Some
returns-in-Some c =
    let first = rw c.in-Some.is at c.first_unequal.ensures in
    push_found (given c.args.program.now []) (tables c.args.exec.now c.args.ext.now) first.is_first first.below

pub returns-then-push_total-pull_total : goal.returns-then-push_total-pull_total
returns-then-push_total-pull_total c =
    let none = rw c.in_default.is at c.first_unequal.ensures in
    same_totals (given c.args.program.now []) (tables c.args.exec.now c.args.ext.now) (sym none) (omega arith)
    (sym c.push_total.ensures ∙ c.if-push_total-pull_total.true ∙ c.pull_total.ensures)

pub overflow_sub-result : goal.overflow_sub-result
overflow_sub-result c =
    let first = rw c.in-Some-first_unequal.is at c.first_unequal-2.ensures in
    pull_past (given c.args.program.now []) (tables c.args.exec.now c.args.ext.now) first.is_first

pub returns-in-Some-first_unequal : goal.returns-in-Some-first_unequal
returns-in-Some-first_unequal c =
    let none = rw c.in_default.is at c.first_unequal.ensures in
    let first = rw c.in-Some-first_unequal.is at c.first_unequal-2.ensures in
    pull_found (given c.args.program.now []) (tables c.args.exec.now c.args.ext.now) (sym none) (omega arith) first.is_first first.below

pub returns : goal.returns
returns c =
    let none = rw c.in_default.is at c.first_unequal.ensures in
    let all = rw c.in_default-first_unequal.is at c.first_unequal-2.ensures in
    none_found (given c.args.program.now []) (tables c.args.exec.now c.args.ext.now) (sym none) (omega arith) (sym all) (omega arith)
