-- The slot that is found was empty, and gets the row's number above its tag.
use native.Mathlib.Omega.{arith}
use Prim.Native.Nat.{◌+◌, ◌/◌, ◌%◌}
use Rattle.bus_rounds.proofs.Held.{slot_put}
use Rattle.bus_rounds.proofs.Rounds.put_slot.Goals as goal

pub returns : goal.returns
returns c =
    let x = c.low_of.result + c.args.k + 1 in
    λ _.
    slot_put c.args.slots.now (omega arith) (omega arith) c.in-Some.s (x % 65536) (x / 65536) c.in-Some.ensures.0
    c.args.self.now.ext.now c.args.k c.low_of.ensures (omega (arith, c.args.self.now.room.rows)) (omega arith) c.in-Some.ensures.1
