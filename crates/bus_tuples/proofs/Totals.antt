-- Totals, and one place that is counted differently.
-- Assumes nothing.
use mathlib.Core.Path.{◌≡◌, ap}
use Prim.Native.Nat.{ℕ, zero, suc, ◌+◌, ◌<◌}
use native.Mathlib.Omega.{arith}
use Rattle.word.proofs.Tests.{by_equal}
use Rattle.rules.specs.Bus.{total}
pub use Rattle.rules.proofs.Totals.{one_more, counts_none, total_same, total_zero, total_stays}

-- what is counted differently in one place changes a total by that
module _ (new old : ℕ → ℕ) (q : ℕ) (other : (s : ℕ) → (s ≡ q → ⊥) → new s ≡ old s) where
  pub total_set : (n : ℕ) → q < n → total new n + old q ≡ total old n + new q
  total_set zero h = absurd (omega arith)
  total_set (suc n) h =
      by_equal n q
      (λ at. omega (arith, ap new at, ap old at, total_same new old n (λ s b. other s (λ e. omega arith))))
      (λ differs. omega (arith, other n differs, total_set n (omega arith)))
