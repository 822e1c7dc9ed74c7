-- A test that holds of every number below another holds of each.
-- Assumes nothing.
use Prim.Native.Nat.{ℕ, zero, suc, ◌+◌, ◌<◌}
use mathlib.Core.Bool.{Bool, true, ◌&&◌}
use mathlib.Core.List.{[], ◌∷◌}
use mathlib.Core.Path.{◌≡◌, subst}
use native.Mathlib.Numerals.{add-one}
use native.Mathlib.Omega.{arith}
use Rattle.word.proofs.Tests.{by_order, each}
use Rattle.text_fields.specs.Digit.{every}

module _ (f : ℕ → Bool) where
  pub every_more : (k : ℕ) → every f (k + 1) ≡ every f k && f k
  unfolding every
  every_more k = rw (add-one k)

  pub every_at : (n k : ℕ) → k < n → every f n ≡ true → f k ≡ true
  unfolding every
  every_at zero k h e = absurd (omega arith)
  every_at (suc n) k h e =
      let p = each (every f n) (f n ∷ []) e in
      by_order k n (λ a. every_at n k a p.0) (λ a. subst (λ (j : ℕ). f j ≡ true) (omega arith) p.1)
