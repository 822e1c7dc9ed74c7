-- Each draw starts from the state that the draw before left.
use mathlib.Core.Path.{refl}
use Rattle.maker_draws.specs.Drawn.{state_after}
use Rattle.maker_draws.proofs.draw_three.Goals as goal

pub returns : goal.returns
unfolding state_after
returns c =
    let first = c.next_number.ensures in
    let second = c.next_number-a.ensures in
    let third = c.next_number-c.ensures in
    rw (c.kind_of-kind.ensures, third.0, third.1, second.0, second.1, first.0, first.1) (refl, refl, refl, refl)
