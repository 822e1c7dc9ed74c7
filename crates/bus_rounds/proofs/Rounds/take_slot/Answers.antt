-- In the slot that is found a row with the tuple waits.
use native.Mathlib.Omega.{arith}
use Rattle.bus_rounds.proofs.Held.{slot_taken}
use Rattle.bus_rounds.proofs.Rounds.take_slot.Goals as goal

pub returns : goal.returns
returns c = λ _. slot_taken _ _ _ c.args.slots.now (omega arith) (omega arith) c.in-Some.s c.in-Some.ensures.0 c.in-Some.ensures.1
