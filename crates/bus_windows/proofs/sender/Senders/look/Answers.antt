-- Each sender passed is equal; the first of them was counted, so that a look gets past it.
use mathlib.Core.Path.{◌≡◌, sym, ◌∙◌, subst}
use native.Mathlib.Omega.{arith}
use Rattle.judge_spec.proofs.FirstLaws.{stops, goes_on}
use Rattle.bus_windows.specs.Senders.{given_of, tables_of}
use Rattle.bus_windows.specs.Window.{InWindow}
use Rattle.bus_windows.proofs.sender.Senders.look.Goals as goal

pub returns-in_default : goal.returns-in_default
returns-in_default c =
    let loop = c.loop-j in
    let held = InWindow (given_of c.args.self.now) (tables_of c.args.self.now) c.args.window.now in
    let missing = rw c.in_default.is at c.stands.ensures in
    let later : c.args.from ≡ loop.j → ⊥ = λ e. missing (subst held e c.requires.in_window) in
    record { goes = omega arith; within = omega arith; left = loop.invariant }

pub returns-then-not-equal : goal.returns-then-not-equal
returns-then-not-equal c =
    let differs = rw c.in-Some.is at c.stands.ensures in
    record { below = omega arith; is_first = sym (c.loop-j.invariant ∙ stops _ _ _ c.loop-j-test.true (differs ∙ c.if-not-equal.true)) }

pub loop-j-preserved : goal.loop-j-preserved
loop-j-preserved c =
    let agrees = rw c.in-Some.is at c.stands.ensures in
    c.loop-j.invariant ∙ goes_on _ _ _ c.loop-j-test.true (agrees ∙ c.if-not-equal.false)

pub returns : goal.returns
returns c =
    let done : c.loop-j.j ≡ c.args.to = omega arith in
    record { goes = omega arith; within = omega arith; left = rw done at c.loop-j.invariant }
