-- The invariant: what may still be drawn ends where it would from the first draw.
use mathlib.Core.Logic.{⊎_elim}
use borrow.Author.Tests.{eq-eqb, ne_eqb}
use Rattle.maker_draws.proofs.Again.{turn, full, plain, low}
use Rattle.maker_draws.proofs.draw_cell.Goals as goal

pub returns-then-version-eq1 : goal.returns-then-version-eq1
returns-then-version-eq1 c =
    let l = c.loop-thrown in
    let d = c.next_number-number.ensures in
    rw d.1
    (⊎_elim (λ e. plain _ _ _ _ _ d.0 l.invariant (eq-eqb c.args.version 1 e)) (λ h. low _ _ _ _ _ d.0 l.invariant h.1)
    c.then-version-eq1.either)

pub loop-thrown-preserved : goal.loop-thrown-preserved
loop-thrown-preserved c =
    let l = c.loop-thrown in
    let d = c.next_number-number.ensures in
    let later = ne_eqb c.args.version 1 c.if-version-eq1.false in
    rw d.1 (turn _ _ _ _ _ d.0 l.invariant c.loop-thrown-test.true later c.if-number-lt-KEPT_BELOW.false)

pub returns : goal.returns
returns c =
    let l = c.loop-thrown in
    let d = c.next_number.ensures in
    rw d.1 (full _ _ _ _ _ d.0 l.invariant c.loop-thrown-test.false)
