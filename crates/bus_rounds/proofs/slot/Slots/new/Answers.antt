-- Every slot's number is 0.
use lib.ListN.{get_or-replicate}
use mathlib.Core.Path.{ap}
use Prim.Native.Nat.{ℕ, ◌+◌, ◌*◌}
use Rattle.bus_rounds.proofs.slot.Slots.new.Goals as goal

pub returns : goal.returns
returns c = λ s h. ap {B = ℕ} (λ x. x + 65536 * x) (get_or-replicate 6553 s 0 0 h)
