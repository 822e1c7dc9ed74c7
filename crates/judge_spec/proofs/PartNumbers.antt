-- Statements of every part number, from those of the parts in turn.
use mathlib.Core.Path.{◌≡◌, refl, subst}
use mathlib.Core.Bool.{Bool, true, false}
use Prim.Native.Nat.{ℕ, zero, suc, ◌≤◌, ◌<◌}
use native.Mathlib.Omega.{arith}
use lib.Dec.{ltb}
use borrow.Author.Tests.{ltb-true, ltb-false}

module _ (P : ℕ → Type 0) where
  -- what holds below n and of n holds below the next
  pub one_more : (n : ℕ) → ((m : ℕ) → m < n → P m) → P n → (m : ℕ) → m < suc n → P m
  one_more n below at m h = go (ltb m n) refl
    where
      go : (b : Bool) → ltb m n ≡ b → P m
      go true t = below m (ltb-true m n t)
      go false t =
          let past : n ≤ m = ltb-false m n t in
          let same : n ≡ m = omega arith in
          subst P same at

  -- what holds of 0 and the four parts, and of the numbers after them
  pub every : P 0 → P 1 → P 2 → P 3 → P 4 → ((m : ℕ) → P (suc (suc (suc (suc (suc m)))))) → (m : ℕ) → P m
  every a b c d e others zero = a
  every a b c d e others (suc zero) = b
  every a b c d e others (suc (suc zero)) = c
  every a b c d e others (suc (suc (suc zero))) = d
  every a b c d e others (suc (suc (suc (suc zero)))) = e
  every a b c d e others (suc (suc (suc (suc (suc m))))) = others m

  pub every_from : ((m : ℕ) → m < 5 → P m) → ((m : ℕ) → P (suc (suc (suc (suc (suc m)))))) → (m : ℕ) → P m
  every_from parts =
      every (parts 0 (omega arith)) (parts 1 (omega arith)) (parts 2 (omega arith)) (parts 3 (omega arith)) (parts 4 (omega arith))
