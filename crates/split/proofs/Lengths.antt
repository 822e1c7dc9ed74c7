-- The two lengths: a power from 2^0 on is 1 or a power from 2^1 on, and what is too long for a memory does not fit.
-- Assumes nothing.
use borrow.Author.Tests.{eqb-true, le-leb}
use mathlib.Core.Path.{◌≡◌, refl, sym}
use mathlib.Core.Bool.{Bool, true, false, ◌&&◌, ◌||◌, or-false, and-false}
use mathlib.Core.List.{[], ◌∷◌}
use Prim.Native.Nat.{ℕ, zero, suc, ◌+◌, ◌/◌, ◌%◌, ◌^◌, ◌≤◌, ◌<◌}
use native.Mathlib.Omega.{arith}
use lib.Dec.{leb, eqb}
use Rattle.word.proofs.Tests.{cases, each, from_true}
use Rattle.rules.specs.Sizes.{is_power, memory_fits}
use Rattle.judge_spec.proofs.Lengths.{whole}
use Rattle.split_spec.specs.Split.{public_fits, split_fits}

exchanged : (a b c : Bool) → (a || (b || c)) ≡ (b || (a || c))
exchanged true true c = refl
exchanged true false c = refl
exchanged false b c = refl

pub from_one : (n high : ℕ) → (eqb n 1 || is_power n 1 high) ≡ is_power n 0 high
from_one n zero = or-false (eqb n 1)
from_one n (suc high) =
    rw (le-leb 1 (suc high) (omega arith), le-leb 0 (suc high) (omega arith), exchanged (eqb n 1) (eqb n (2 ^ suc high)) (is_power n 1 high), from_one n high)

module _ (public rest : ℕ) where
  short : memory_fits (public + rest) ≡ true → public + rest ≤ 2 ^ 31
  short e = let w = whole (public + rest) 4 29 (from_true _ e) in omega (arith, w.whole, w.number.most)

  pub too_long : 2 ^ 31 < public + rest → false ≡ split_fits public rest
  too_long h =
      cases (memory_fits (public + rest)) (λ t. absurd (omega (arith, h, short t))) (λ f. rw f (sym (and-false (public_fits public && leb 1 rest))))

  -- the length of two that fit
  pub both_fit_lem : split_fits public rest ≡ true → (public % 4 ≡ 0) × (public + rest ≤ 2 ^ 31)
  both_fit_lem e =
      let t = each (eqb (public % 4) 0) (is_power (public / 4) 0 28 ∷ leb 1 rest ∷ memory_fits (public + rest) ∷ []) e in
      (eqb-true (public % 4) 0 t.0, short t.1.1.1)
