-- Two lengths pass exactly where they are those of a memory that is cut.
-- Assumes nothing.
use borrow.Author.Tests.{eq-eqb, eqb-true, leb-true, le-leb}
use mathlib.Core.Path.{◌≡◌, refl}
use mathlib.Core.Bool.{true, false, ◌||◌}
use mathlib.Core.List.{[], ◌∷◌}
use Prim.Native.Nat.{ℕ, zero, suc, ◌+◌, ◌-◌, ◌*◌, ◌/◌, ◌%◌, ◌^◌, ◌≤◌, ◌<◌}
use native.Mathlib.Omega.{arith}
use lib.Dec.{leb, eqb}
use lib.Pow.{pow_mono, pow-lt}
use Rattle.word.proofs.Tests.{is_true, each, either, by_order}
use Rattle.rules.specs.Sizes.{is_power, memory_fits}
use Rattle.judge_spec.proofs.Lengths.{power_passes}
use Rattle.split_spec.specs.Split.{split_fits}
use Rattle.split_law.specs.Splits.{Cut}

-- a power in a range, and which it is
pub record PowerOf (n low high : ℕ) : Type 0 where
  pub exponent : ℕ
  pub least : low ≤ exponent
  pub most : exponent ≤ high
  pub is : n ≡ 2 ^ exponent

pub power_of_lem : (n low high : ℕ) → is_power n low high ≡ true → PowerOf n low high
power_of_lem n low zero e =
    let t = each (leb low 0) (eqb n 1 ∷ []) e in
    record { exponent = 0; least = leb-true low 0 t.0; most = omega arith; is = eqb-true n 1 t.1 }
power_of_lem n low (suc high) e =
    let t = each (leb low (suc high)) ((eqb n (2 ^ suc high) || is_power n low high) ∷ []) e in
    either (eqb n (2 ^ suc high)) (is_power n low high)
    (λ same. record { exponent = suc high; least = leb-true low (suc high) t.0; most = omega arith; is = eqb-true n (2 ^ suc high) same })
    (λ less.
    let k = power_of_lem n low high less in
    record { exponent = k.exponent; least = k.least; most = omega (arith, k.most); is = k.is })
    t.1

-- by computation: the least and the greatest m', and lengths that are next to valid ones
least : split_fits 4 1020 ≡ true
least = refl

greatest : split_fits (4 * 2 ^ 28) (4 * 2 ^ 28) ≡ true
greatest = refl

no_public_words : split_fits 0 1024 ≡ false
no_public_words = refl

three_words : split_fits 12 1012 ≡ false
three_words = refl

one_byte_more : split_fits 5 1019 ≡ false
one_byte_more = refl

nothing_left : split_fits 1024 0 ≡ false
nothing_left = refl

two_words_in_all : split_fits 4 4 ≡ false
two_words_in_all = refl

rest_of_a_memory : split_fits 4 1024 ≡ false
rest_of_a_memory = refl

pub passes_cut : (public rest : ℕ) → split_fits public rest ≡ true → (m : ℕ) × (m' : ℕ) × Cut m m' public rest
passes_cut public rest e =
    let t = each (eqb (public % 4) 0) (is_power (public / 4) 0 28 ∷ leb 1 rest ∷ memory_fits (public + rest) ∷ []) e in
    let u = each (eqb ((public + rest) % 4) 0) (is_power ((public + rest) / 4) 8 29 ∷ []) t.1.1.1 in
    let small = power_of_lem (public / 4) 0 28 t.1.0 in
    let large = power_of_lem ((public + rest) / 4) 8 29 u.1 in
    let cut = eqb-true (public % 4) 0 t.0 in
    let whole = eqb-true ((public + rest) % 4) 0 u.0 in
    let some = leb-true 1 rest t.1.1.0 in
    let less : 2 ^ small.exponent < 2 ^ large.exponent = omega (arith, cut, whole, some, small.is, large.is) in (
      large.exponent,
      small.exponent,
      record {
        least = large.least;
        most = large.most;
        below = by_order small.exponent large.exponent (λ l. l) (λ h. absurd (omega (arith, less, pow_mono h)));
        first = omega (arith, cut, small.is);
        others = omega (arith, cut, whole, small.is, large.is);
      },
    )

pub cut_passes : (m m' public rest : ℕ) → Cut m m' public rest → split_fits public rest ≡ true
cut_passes m m' public rest c =
    let less : 2 ^ m' < 2 ^ m = pow-lt c.below in
    let first = c.first in
    let others = c.others in
    let words : public / 4 ≡ 2 ^ m' = omega arith in
    let all : (public + rest) / 4 ≡ 2 ^ m = omega arith in
    rw (
      eq-eqb (public % 4) 0 (omega arith),
      eq-eqb ((public + rest) % 4) 0 (omega arith),
      words,
      all,
      is_true (is_power (2 ^ m') 0 28) (power_passes m' 0 28 (omega arith) (omega (arith, c.below, c.most))),
      is_true (is_power (2 ^ m) 8 29) (power_passes m 8 29 c.least c.most),
      le-leb 1 rest (omega arith),
    )
