-- What document 01's sizes say of the numbers of instructions, cells and rows.
-- Assumes nothing.
use mathlib.Core.Path.{◌≡◌}
use mathlib.Core.Bool.{Bool, true, false, ◌&&◌, ◌||◌}
use Prim.Native.Nat.{ℕ, zero, suc, ◌/◌, ◌%◌, ◌^◌, ◌≤◌}
use native.Mathlib.Nat.{le_of_eq, le_trans}
use native.Mathlib.Omega.{arith}
use lib.Dec.{T, leb, leb→le, eqb, eqb→eq}
use lib.Pow.{pow_mono}
use borrow.Author.Tests.{le-leb}
use Rattle.word.proofs.Tests.{eqb_same, by_order}
use Rattle.rules.specs.Sizes.{is_power, power_of, program_fits}
use Rattle.judge_spec.proofs.Cases.{both}

-- n is from 2^low to 2^high
pub record Between (n low high : ℕ) : Type 0 where
  pub least : 2 ^ low ≤ n
  pub most : n ≤ 2 ^ high

either_way : (a b : Bool) (C : Type 0) → T (a || b) → (T a → C) → (T b → C) → C
either_way true b C t f g = f tt
either_way false b C t f g = g t

same : (n low high : ℕ) → low ≤ high → n ≡ 2 ^ high → Between n low high
same n low high h e = record { least = rw e (pow_mono h); most = le_of_eq e }

between : (n low high : ℕ) → T (is_power n low high) → Between n low high
between n low zero t =
    let h = both (leb low 0) (eqb n 1) t in
    same n low 0 (leb→le low 0 h.0) (eqb→eq n 1 h.1)
between n low (suc high) t =
    let h = both (leb low (suc high)) (eqb n (2 ^ suc high) || is_power n low high) t in
    either_way (eqb n (2 ^ suc high)) (is_power n low high) (Between n low (suc high)) h.1
    (λ e. same n low (suc high) (leb→le low (suc high) h.0) (eqb→eq n (2 ^ suc high) e))
    (λ u.
    let b = between n low high u in
    record { least = b.least; most = le_trans b.most (pow_mono (omega arith)) })

-- and each power in the range passes
or_right : (a b : Bool) → T b → T (a || b)
or_right true b t = tt
or_right false b t = t

pub power_passes : (k low high : ℕ) → low ≤ k → k ≤ high → T (is_power (2 ^ k) low high)
power_passes k low zero least most = let e : k ≡ 0 = omega arith in rw (e, le-leb low 0 (omega arith)) tt
power_passes k low (suc high) least most =
    rw (le-leb low (suc high) (omega arith))
    (by_order k (suc high)
    (λ l. or_right (eqb (2 ^ k) (2 ^ suc high)) (is_power (2 ^ k) low high) (power_passes k low high least (omega arith)))
    (λ l. let e : k ≡ suc high = omega arith in rw (e, eqb_same (2 ^ suc high)) tt))

-- a part of whole units, of a number in range
pub record Whole (bytes unit high : ℕ) : Type 0 where
  pub whole : bytes % unit ≡ 0
  pub number : Between (bytes / unit) 8 high

pub whole : (bytes unit high : ℕ) → T (power_of bytes unit high) → Whole bytes unit high
whole bytes unit high t =
    let h = both (eqb (bytes % unit) 0) (is_power (bytes / unit) 8 high) t in
    record { whole = eqb→eq _ _ h.0; number = between (bytes / unit) 8 high h.1 }

pub few : (bytes : ℕ) → T (program_fits bytes) → bytes / 48 ≤ 2 ^ 20
few bytes t = leb→le _ _ (both (eqb (bytes % 48) 0 && leb 1 (bytes / 48)) (leb (bytes / 48) (2 ^ 20)) t).1
