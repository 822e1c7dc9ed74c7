-- Remainders under sums and products, for any modulus.
-- Assumes nothing.
use mathlib.Core.Path.{◌≡◌, sym, ◌∙◌, ap}
use Prim.Native.Nat.{ℕ, ◌+◌, ◌*◌, ◌/◌, ◌%◌}
use native.Mathlib.Nat.{div-add-mod, add-mul-mod_self_left}
use native.Mathlib.Omega.{arith}

-- a factor may be reduced first
pub mod_mul : (a b n : ℕ) → a % n * b % n ≡ a * b % n
mod_mul a b n =
    let whole : (n * (a / n) + a % n) * b ≡ a * b = ap (λ (x : ℕ). x * b) (div-add-mod a n) in
    let taken : a % n * b + n * (a / n * b) ≡ a * b = omega arith in
    sym (add-mul-mod_self_left (a % n * b) n (a / n * b)) ∙ ap (λ (x : ℕ). x % n) taken
