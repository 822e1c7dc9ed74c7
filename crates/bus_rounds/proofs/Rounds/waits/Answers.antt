-- A number between low and low + span is that of a row with this tag.
use native.Mathlib.Omega.{arith}
use mathlib.Core.Path.{◌≡◌, sym, ap, ◌∙◌}
use Prim.Native.Nat.{◌+◌, ◌-◌}
use Rattle.rules.specs.Bus.{same_tuple}
use Rattle.bus_tuples.specs.Sent.{tuple_of}
use Rattle.bus_tuples.proofs.Tuples.{equal_same}
use Rattle.bus_rounds.specs.Slots.{waiting}
use Rattle.bus_rounds.proofs.Held.{waits_as}
use Rattle.bus_rounds.proofs.Rounds.waits.Goals as goal

pub returns : goal.returns
returns c =
    let start = c.args in
    let row = start.x - start.low - 1 in
    let above : start.x ≡ start.low + row + 1 = omega arith in
    let found = waits_as start.self.now.ext.now (tuple_of start.t) row c.requires (omega (arith, start.self.now.room.rows)) in
    λ e.
    ap (waiting _ _ _) above ∙ found
    ∙ ap (λ ρ. same_tuple ρ (tuple_of start.t)) (sym c.tuple_at.ensures)
    ∙ sym (c.eq.ensures ∙ equal_same c.tuple_at.result start.t) ∙ e
