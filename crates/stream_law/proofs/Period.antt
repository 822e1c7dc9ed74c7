-- 2^64 advances lead back, and no fewer do: 2^63 change the state by 2^63, and every number below 2^64 that led back
-- would, doubled often enough, make 2^63 lead back.
-- Assumes nothing.
use mathlib.Core.Path.{◌≡◌, refl, sym, ◌∙◌, ap}
use mathlib.Core.Logic.{◌↔◌}
use Prim.Native.Nat.{ℕ, zero, suc, ◌+◌, ◌-◌, ◌*◌, ◌/◌, ◌%◌, ◌^◌, ◌<◌}
use native.Mathlib.Omega.{arith}
use native.Mathlib.Nat.{div-add-mod, mul-mod_right, pow-suc}
use Rattle.word.proofs.Tests.{by_order}
use Rattle.stream_spec.specs.Stream.{advances}
use Rattle.stream_spec.specs.Pairs.{applied, doubled, pair_of}
use Rattle.stream_spec.specs.declared.Pair.{Pair}
use Rattle.stream_law.proofs.Modular.{mul_mod}
use Rattle.stream_law.proofs.Advances.{advances_none, advances_add, stays_whole, pair_advances}

pub last_pair : pair_of 63 ≡ record { multiplier = 1; increment = 2 ^ 63 }
unfolding pair_of doubled
last_pair = refl

pub pair_after : pair_of 64 ≡ record { multiplier = 1; increment = 0 }
unfolding pair_of doubled
pair_after = refl

half_way : (s : ℕ) → advances (2 ^ 63) s ≡ (s + 2 ^ 63) % 2 ^ 64
half_way s = sym (pair_advances 63 s) ∙ ap (λ (p : Pair). applied p s) last_pair ∙ omega arith

round : (s : ℕ) → s < 2 ^ 64 → advances (2 ^ 64) s ≡ s
round s h = sym (pair_advances 64 s) ∙ ap (λ (p : Pair). applied p s) pair_after ∙ omega arith

rounds : (q s : ℕ) → s < 2 ^ 64 → advances (q * 2 ^ 64) s ≡ s
rounds zero s h = advances_none s
rounds (suc q) s h =
    let e : suc q * 2 ^ 64 ≡ q * 2 ^ 64 + 2 ^ 64 = omega arith in
    ap (λ (n : ℕ). advances n s) e ∙ advances_add (q * 2 ^ 64) (2 ^ 64) s ∙ ap (advances (q * 2 ^ 64)) (round s h) ∙ rounds q s h

-- only a number's remainder counts
pub reduced : (n s : ℕ) → s < 2 ^ 64 → advances n s ≡ advances (n % 2 ^ 64) s
reduced n s h =
    let parts : n ≡ n % 2 ^ 64 + n / 2 ^ 64 * 2 ^ 64 = omega (arith, div-add-mod n (2 ^ 64)) in
    ap (λ (m : ℕ). advances m s) parts
    ∙ advances_add (n % 2 ^ 64) (n / 2 ^ 64 * 2 ^ 64) s
    ∙ ap (advances (n % 2 ^ 64)) (rounds (n / 2 ^ 64) s h)

pub two_jumps : (j k s : ℕ) → s < 2 ^ 64 → advances k (advances j s) ≡ advances ((j + k) % 2 ^ 64) s
two_jumps j k s h =
    let sum : k + j ≡ j + k = omega arith in
    sym (advances_add k j s) ∙ ap (λ (n : ℕ). advances n s) sum ∙ reduced (j + k) s h

module _ (s : ℕ) (h : s < 2 ^ 64) where
  twice : (n : ℕ) → advances n s ≡ s → advances (2 * n % 2 ^ 64) s ≡ s
  twice n back =
      let sum : 2 * n ≡ n + n = omega arith in
      sym (reduced (2 * n) s h) ∙ ap (λ (m : ℕ). advances m s) sum ∙ advances_add n n s ∙ ap (advances n) back ∙ back

  -- f doublings make n a multiple of 2^64: the last before it is 2^63
  none_below : (f n : ℕ) → 0 < n → n < 2 ^ 64 → 2 ^ f * n % 2 ^ 64 ≡ 0 → advances n s ≡ s → ⊥
  none_below zero n some small e back = omega arith
  none_below (suc f) n some small e back =
      by_order (2 * n % 2 ^ 64) 1
      (λ last.
      let turns : 2 ^ 64 * (2 * n / 2 ^ 64) + 2 * n % 2 ^ 64 ≡ 2 * n = div-add-mod (2 * n) (2 ^ 64) in
      let one : 2 * n / 2 ^ 64 ≡ 1 = omega arith in
      let half : n ≡ 2 ^ 63 = omega arith in
      omega (arith, sym (half_way s) ∙ ap (λ (m : ℕ). advances m s) (sym half) ∙ back))
      (λ more.
      let same : 2 ^ suc f * n ≡ 2 ^ f * (2 * n) = rw (pow-suc 2 f) (omega arith) in
      none_below f (2 * n % 2 ^ 64) more (omega arith) (mul_mod (2 ^ f) (2 * n) (2 ^ 64) ∙ ap (λ (m : ℕ). m % 2 ^ 64) (sym same) ∙ e) (twice n back))

  pub leads_back : (n : ℕ) → (advances n s ≡ s) ↔ (n % 2 ^ 64 ≡ 0)
  leads_back n = (
    λ back.
        by_order (n % 2 ^ 64) 1 (λ small. omega arith)
        (λ some. absurd (none_below 64 (n % 2 ^ 64) some (omega arith) (mul-mod_right (2 ^ 64) (n % 2 ^ 64)) (sym (reduced n s h) ∙ back))),
    λ e. reduced n s h ∙ ap (λ (m : ℕ). advances m s) e ∙ advances_none s,
  )

-- so two places of the stream before it repeats have two states
later : (s i d : ℕ) → s < 2 ^ 64 → d < 2 ^ 64 → advances i s ≡ advances (d + i) s → d ≡ 0
later s i d h small e =
    let back : advances d (advances i s) ≡ advances i s = sym (advances_add d i s) ∙ sym e in
    omega (arith, (leads_back (advances i s) (stays_whole i s h) d).0 back)

pub one_place : (s i j : ℕ) → s < 2 ^ 64 → i < 2 ^ 64 → j < 2 ^ 64 → advances i s ≡ advances j s → i ≡ j
one_place s i j h low high e =
    by_order i j
    (λ less.
    let d : j - i + i ≡ j = omega arith in
    omega (arith, later s i (j - i) h (omega arith) (e ∙ ap (λ (m : ℕ). advances m s) (sym d))))
    (λ most.
    let d : i - j + j ≡ i = omega arith in
    omega (arith, later s j (i - j) h (omega arith) (sym e ∙ ap (λ (m : ℕ). advances m s) (sym d))))
