-- The count of the slot says whether the tuple is equal.
use mathlib.Core.Path.{sym, ap, ◌∙◌}
use native.Mathlib.Omega.{arith}
use Rattle.bus_search.specs.Slots.{slot_of}
use Rattle.bus_search.proofs.Slots.{slot_within}
use Rattle.bus_windows.specs.Senders.{given_of, tables_of, sending_of}
use Rattle.bus_windows.proofs.Joined.{equal_nothing, equal_sent}
use Rattle.bus_windows.proofs.Windows.{count_says, is_sent}
use Rattle.bus_windows.proofs.sender.Senders.stands.Goals as goal

pub returns-in_default : goal.returns-in_default
returns-in_default c =
    equal_nothing (given_of c.args.self.now) (tables_of c.args.self.now) c.args.j (rw c.in_default.is at c.sender.ensures)

pub offset_bounds-net-s : goal.offset_bounds-net-s
offset_bounds-net-s c = omega (arith, slot_within _ _ c.seek.ensures c.in_ok-s.was)

pub bounds-net-s : goal.bounds-net-s
bounds-net-s c = slot_within _ _ c.seek.ensures c.in_ok-s.was

pub returns : goal.returns
returns c =
    let self = c.args.self.now in
    let reads = rw c.in-Some.is at c.sender.ensures in
    let slot = ap (slot_of c.args.window.now) (sym reads.tuple_is) ∙ sym c.seek.ensures ∙ c.in_ok-s.was in
    equal_sent (given_of self) (tables_of self) c.args.j (is_sent _ _ _ c.in-Some.x reads)
    ∙ count_says (given_of self) (tables_of self) c.args.window.now (sending_of (given_of self) (tables_of self) c.args.j).tuple c.in_ok-s.s slot
    _ (c.requires.counted c.in_ok-s.s (slot_within _ _ c.seek.ensures c.in_ok-s.was))
