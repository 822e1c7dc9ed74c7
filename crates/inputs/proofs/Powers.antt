-- A power of two within bounds, and none there.
-- Assumes nothing.
use mathlib.Core.Path.{◌≡◌, refl, sym, ◌∙◌}
use mathlib.Core.Bool.{Bool, true, false, ◌&&◌, ◌||◌, true≢false}
use Prim.Native.Nat.{ℕ, zero, suc, ◌*◌, ◌%◌, ◌^◌, ◌≤◌, ◌<◌, zero-le}
use native.Mathlib.Nat.{mod-eq_of_lt}
use native.Mathlib.Omega.{arith}
use lib.Dec.{eqb, leb}
use lib.Pow.{pow-lt}
use borrow.Author.Tests.{eq-eqb, ne_eqb, le-leb, leb-true}
use Rattle.rules.specs.Sizes.{is_power}

-- what the shift computes
pub shifted : (k : ℕ) → k < 64 → 1 * 2 ^ k % 2 ^ 64 ≡ 2 ^ k
shifted k h = let one : 1 * 2 ^ k ≡ 2 ^ k = omega arith in rw one (mod-eq_of_lt (pow-lt h))

-- of two tests the second counts where the first fails, or where it holds
or_else : (b c : Bool) → (b ≡ false → true ≡ c) → true ≡ (b || c)
or_else true c f = refl
or_else false c f = f refl

and_then : (b c : Bool) → (b ≡ true → c ≡ false) → false ≡ (b && c)
and_then true c f = sym (f refl)
and_then false c f = refl

module _ (n low : ℕ) where
  pub hit : (high k : ℕ) → low ≤ k → k ≤ high → n ≡ 2 ^ k → true ≡ is_power n low high
  hit zero k least most e =
      let one : k ≡ 0 = omega arith in
      rw (le-leb low 0 (omega arith), eq-eqb n 1 (rw one at e))
  hit (suc high) k least most e =
      rw (le-leb low (suc high) (omega arith))
      (or_else (eqb n (2 ^ suc high)) (is_power n low high) (λ t. hit high k least (omega (arith, other t)) e))
    where
      other : eqb n (2 ^ suc high) ≡ false → k ≡ suc high → ⊥
      other t same = true≢false (sym (eq-eqb n (2 ^ suc high) (rw same at e)) ∙ t)

  pub none : (high : ℕ) → ((k : ℕ) → low ≤ k → k ≤ high → n ≡ 2 ^ k → ⊥) → false ≡ is_power n low high
  none zero not = and_then (leb low 0) (eqb n 1) (λ t. ne_eqb n 1 (not 0 (leb-true low 0 t) zero-le))
  none (suc high) not =
      and_then (leb low (suc high)) (eqb n (2 ^ suc high) || is_power n low high)
      (λ t. rw (ne_eqb n (2 ^ suc high) (not (suc high) (leb-true low (suc high) t) (omega arith)))
      (sym (none high (λ k least most. not k least (omega arith)))))
