-- The slots that are tried are there.
use Prim.Native.Nat.{◌<◌}
use Rattle.bus_rounds.proofs.slot.Slots.empty_for.Given as goal

abbrev pub invariant-loop : goal.invariant-loop
invariant-loop l = l.s < 6553
