-- A number of draws bit by bit: a bit's own draws, and those that are left.
-- Assumes nothing.
use Rattle.std.proofs.Common.{◌≡◌, refl, zero, suc, ℕ, ◌+◌, ◌*◌, ◌/◌, ◌%◌, ◌^◌, ◌<◌, ◌≤◌, List, get_or, sym, ap, ◌∙◌, mul-le-mul_right, one-mul, pow-suc, zero-mul, add-one, arith, pow_mono}
use native.Mathlib.Nat.{div-add-mod}
use Rattle.word.proofs.Tests.{by_order}
use Rattle.stream_spec.specs.Stream.{advances}
use Rattle.stream_spec.specs.Pairs.{applied, table}
use Rattle.stream_spec.specs.declared.Pair.{Pair}
use Rattle.stream_law.proofs.Advances.{advances_none, advances_add, entry, pair_advances}

-- a number by its halves
halves : (k p : ℕ) → k * p ≡ k / 2 * (p * 2) + k % 2 * p
halves k p =
    let joined : (2 * (k / 2) + k % 2) * p ≡ k * p = ap (λ (x : ℕ). x * p) (div-add-mod k 2) in
    omega arith

-- one bit done: what is left of the draws, from where the bit led
pub bit_done : (k i s t : ℕ) → t ≡ advances (k % 2 * 2 ^ i) s → advances (k * 2 ^ i) s ≡ advances (k / 2 * 2 ^ (i + 1)) t
bit_done k i s t e =
    rw (add-one i, pow-suc 2 i, e)
    (ap (λ (n : ℕ). advances n s) (halves k (2 ^ i)) ∙ advances_add (k / 2 * (2 ^ i * 2)) (k % 2 * 2 ^ i) s)

pub falls : (k i : ℕ) → k / 2 * 2 ^ (i + 1) ≤ k * 2 ^ i
falls k i = rw (add-one i, pow-suc 2 i) (omega (arith, halves k (2 ^ i)))

pub set_bit : (k i s : ℕ) (pairs : List Pair) (d : Pair) → pairs ≡ table → i < 64 → k % 2 ≡ 1
    → applied (get_or pairs i d) s ≡ advances (k % 2 * 2 ^ i) s
set_bit k i s pairs d is small h =
    rw (h, one-mul (2 ^ i)) (ap (λ (p : Pair). applied p s) (ap (λ (xs : List Pair). get_or xs i d) is ∙ entry i d small) ∙ pair_advances i s)

pub clear_bit : (k i s : ℕ) → (k % 2 ≡ 1 → ⊥) → s ≡ advances (k % 2 * 2 ^ i) s
clear_bit k i s h =
    let e : k % 2 ≡ 0 = omega arith in
    rw (e, zero-mul (2 ^ i)) (sym (advances_none s))

-- where a bit is left, it is one of the 64
pub within : (k i : ℕ) → 0 < k → k * 2 ^ i < 2 ^ 64 → i < 64
within k i some small =
    by_order i 64 (λ less. less)
    (λ most.
    let least : 2 ^ 64 ≤ 2 ^ i = pow_mono {i = 64} {j = i} most in
    let more : 2 ^ i ≤ k * 2 ^ i = rw (one-mul (2 ^ i)) at (mul-le-mul_right (2 ^ i) some) in
    absurd (omega (arith, least, more)))

-- past the 64 bits none is left
pub none_from : (k i : ℕ) → 64 ≤ i → k * 2 ^ i < 2 ^ 64 → k ≡ 0
none_from zero i past small = refl
none_from (suc k) i past small =
    let least : 2 ^ 64 ≤ 2 ^ i = pow_mono {i = 64} {j = i} past in
    let some : 1 ≤ suc k = omega arith in
    let more : 2 ^ i ≤ suc k * 2 ^ i = rw (one-mul (2 ^ i)) at (mul-le-mul_right (2 ^ i) some) in
    absurd (omega (arith, least, more))

-- and where none is left, no draw is
pub all_done : (k i s : ℕ) → k ≡ 0 → advances (k * 2 ^ i) s ≡ s
all_done k i s e = rw (e, zero-mul (2 ^ i)) (advances_none s)
