-- A second factor may be reduced first; and two affine steps, one after the other, are one.
-- Assumes nothing.
use mathlib.Core.Path.{◌≡◌, sym, ◌∙◌, ap}
use Prim.Native.Nat.{ℕ, ◌+◌, ◌*◌, ◌%◌}
use native.Mathlib.Omega.{arith}
use native.Mathlib.Nat.{mul_comm, mod-add-mod, add-mod-mod}
use Rattle.word.proofs.Modulo.{mod_mul}

pub mul_mod : (a b n : ℕ) → a * (b % n) % n ≡ a * b % n
mul_mod a b n = ap (λ (x : ℕ). x % n) (mul_comm a (b % n)) ∙ mod_mul b a n ∙ ap (λ (x : ℕ). x % n) (mul_comm b a)

pub composed : (m c d e n s : ℕ) → (m * ((d * s + e) % n) + c) % n ≡ (m * d % n * s + (m * e + c) % n) % n
composed m c d e n s =
    let left : (m * ((d * s + e) % n) + c) % n ≡ (m * (d * s + e) + c) % n =
    sym (mod-add-mod (m * ((d * s + e) % n)) n c) ∙ rw (mul_mod m (d * s + e) n) (mod-add-mod (m * (d * s + e)) n c)
    in
    let right : (m * d % n * s + (m * e + c) % n) % n ≡ (m * d * s + (m * e + c)) % n =
    add-mod-mod (m * d % n * s) (m * e + c) n ∙ sym (mod-add-mod (m * d % n * s) n (m * e + c))
    ∙ rw (mod_mul (m * d) s n) (mod-add-mod (m * d * s) n (m * e + c))
    in
    let same : m * (d * s + e) + c ≡ m * d * s + (m * e + c) = omega arith in
    left ∙ ap (λ (x : ℕ). x % n) same ∙ sym right
