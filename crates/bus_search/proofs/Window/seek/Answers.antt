-- Each test is the definition's.
use Rattle.std.proofs.Common.{true, false, sym, ◌∙◌}
use Rattle.bus_search.proofs.Slots.{slot_zero, slot_unmarked, slot_is}
use Rattle.bus_search.proofs.Window.seek.Goals as goal

pub returns-then-holds : goal.returns-then-holds
returns-then-holds c = slot_zero _ _ (sym c.holds.ensures ∙ c.if-holds.true)

pub returns-then-not-is_marked : goal.returns-then-not-is_marked
returns-then-not-is_marked c =
    slot_unmarked _ _ (sym c.holds.ensures ∙ c.if-holds.false) (sym c.is_marked.ensures ∙ c.if-not-is_marked.true)

pub returns-then-holds-2 : goal.returns-then-holds-2
returns-then-holds-2 c =
    slot_is _ _ c.place-at.result true c.place-at.ensures.0 (sym c.holds.ensures ∙ c.if-holds.false)
    (sym c.is_marked.ensures ∙ c.if-not-is_marked.false) (sym c.holds-2.ensures ∙ c.if-holds-2.true)

pub returns-else-holds-2 : goal.returns-else-holds-2
returns-else-holds-2 c =
    slot_is _ _ c.place-at.result false c.place-at.ensures.0 (sym c.holds.ensures ∙ c.if-holds.false)
    (sym c.is_marked.ensures ∙ c.if-not-is_marked.false) (sym c.holds-2.ensures ∙ c.if-holds-2.false)
