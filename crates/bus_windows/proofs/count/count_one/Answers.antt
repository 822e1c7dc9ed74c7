-- The slot that is found is one of the 1024.
use Rattle.std.proofs.Common.{arith}
use Rattle.bus_search.proofs.Slots.{slot_within}
use Rattle.bus_windows.proofs.count.count_one.Goals as goal

pub offset_bounds-net-s : goal.offset_bounds-net-s
offset_bounds-net-s c = omega (arith, slot_within _ _ c.seek.ensures c.in-Some.is)

pub bounds-net-s : goal.bounds-net-s
bounds-net-s c = slot_within _ _ c.seek.ensures c.in-Some.is

pub overflow_sub-net : goal.overflow_sub-net
overflow_sub-net c = omega (arith, (c.requires c.in-Some.s (slot_within _ _ c.seek.ensures c.in-Some.is)).0)

pub offset_bounds-net-s-in-Some : goal.offset_bounds-net-s-in-Some
offset_bounds-net-s-in-Some c = omega (arith, slot_within _ _ c.seek.ensures c.in-Some.is)

pub bounds-net-s-in-Some : goal.bounds-net-s-in-Some
bounds-net-s-in-Some c = slot_within _ _ c.seek.ensures c.in-Some.is
