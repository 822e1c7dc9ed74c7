-- No slot passed is live.
use mathlib.Core.Bool.{true, false}
use mathlib.Core.Path.{◌≡◌}
use Prim.Native.Nat.{ℕ, ◌<◌}
use Rattle.bus_rounds.specs.Slots.{slot_at, live}
use Rattle.bus_rounds.proofs.slot.Slots.none_waits.Given as goal

abbrev pub invariant-loop-s : goal.invariant-loop-s
invariant-loop-s l = l.none ≡ true → (j : ℕ) → j < l.s → live (slot_at l.self j) ≡ false
