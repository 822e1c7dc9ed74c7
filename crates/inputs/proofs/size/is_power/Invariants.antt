-- n is none of the powers below the k-th.
use Rattle.std.proofs.Common.{◌≡◌, ℕ, ◌^◌, ◌<◌, ◌≤◌}
use Rattle.inputs.proofs.size.is_power.Given as goal

abbrev pub invariant-loop-k : goal.invariant-loop-k
invariant-loop-k l = (j : ℕ) → j < l.k → l.low ≤ j → l.n ≡ 2 ^ j → ⊥
