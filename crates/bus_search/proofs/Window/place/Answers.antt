-- What is left of the steps gives the whole answer, and the steps left stay within the slots.
use Rattle.std.proofs.Common.{◌≡◌, ◌+◌, ◌-◌, ◌/◌, sym, ap, ◌∙◌, arith}
use Rattle.bus_search.specs.Slots.{descended, stepped, place_of}
use Rattle.bus_search.proofs.Slots.{steps_on, steps_end, step_taken, step_not}
use Rattle.bus_search.proofs.Window.place.Goals as goal
use Rattle.bus_search.proofs.Window.place.Goals.{then-self-at, else-self-at}

pub loop-k-preserved : goal.loop-k-preserved
loop-k-preserved c =
    let slots = c.args.self.now.slots in
    let key = c.key-key.result in
    let loop = c.loop-k in
    let fewer : 10 - loop._k - 1 ≡ 10 - (loop._k + 1) = omega arith in
    let on = loop.invariant.left ∙ steps_on slots key (10 - loop._k) loop.at loop.step (omega arith) ∙ ap (λ n. descended slots key n (stepped slots key loop.at loop.step) (loop.step / 2)) fewer in
    elim c.if-self-at.branch [
      | then-self-at w ↦
          let taken = step_taken slots key loop.at loop.step w.if-self-at.true ∙ sym w.at-is in
          record { inside = omega arith; within = omega arith; left = on ∙ ap (λ n. descended slots key (10 - (loop._k + 1)) n (loop.step / 2)) taken }
      | else-self-at w ↦
          let not_taken = step_not slots key loop.at loop.step w.if-self-at.false ∙ sym w.at-is in
          record { inside = omega arith; within = omega arith; left = on ∙ ap (λ n. descended slots key (10 - (loop._k + 1)) n (loop.step / 2)) not_taken }
    ]

pub returns : goal.returns
unfolding place_of
returns c =
    let loop = c.loop-k in
    let found = loop.invariant.left ∙ steps_end _ _ (10 - loop._k) loop.at loop.step (omega arith) in
    (sym (rw c.key-key.ensures.key at found), loop.invariant.inside)
