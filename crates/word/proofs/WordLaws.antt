-- The laws of words modulo p, so that no caller unfolds a sum, a difference or a product.
-- Assumes nothing.
use mathlib.Core.Path.{◌≡◌, sym, ◌∙◌, ap}
use mathlib.Core.Logic.{◌⊎◌, inl, inr, ⊎_elim}
use Prim.Native.Nat.{ℕ, ◌+◌, ◌-◌, ◌*◌, ◌%◌}
use native.Mathlib.Nat.{mod-lt, mod-eq_of_lt, mul_comm}
use native.Mathlib.Omega.{arith}
use lib.Dec.{lit<}
use Rattle.word.specs.Word.{p, IsWord, ◌+ₚ◌, ◌-ₚ◌, ◌*ₚ◌}
use Rattle.word.proofs.Primality.{p_prime, factor_zero}

-- each result is a word
pub sum_word : (x y : ℕ) → IsWord (x +ₚ y)
unfolding ◌+ₚ◌
sum_word x y = mod-lt (x + y) (lit< tt)

pub difference_word : (x y : ℕ) → IsWord (x -ₚ y)
unfolding ◌-ₚ◌
difference_word x y = mod-lt (x + (p - y % p)) (lit< tt)

pub product_word : (x y : ℕ) → IsWord (x *ₚ y)
unfolding ◌*ₚ◌
product_word x y = mod-lt (x * y) (lit< tt)

-- sums
pub sum_comm : (x y : ℕ) → x +ₚ y ≡ y +ₚ x
unfolding ◌+ₚ◌
sum_comm x y = omega arith

pub sum_assoc : (x y z : ℕ) → x +ₚ y +ₚ z ≡ x +ₚ (y +ₚ z)
unfolding ◌+ₚ◌
sum_assoc x y z = omega arith

pub sum_zero : (x : ℕ) → IsWord x → x +ₚ 0 ≡ x
unfolding ◌+ₚ◌
sum_zero x w = omega arith

-- differences
pub difference_self : (x : ℕ) → x -ₚ x ≡ 0
unfolding ◌-ₚ◌
difference_self x = omega arith

pub difference_zero : (x : ℕ) → IsWord x → x -ₚ 0 ≡ x
unfolding ◌-ₚ◌
difference_zero x w = omega arith

-- two words whose difference is 0 are equal
pub equal_words : (x y : ℕ) → IsWord x → IsWord y → x -ₚ y ≡ 0 → x ≡ y
unfolding ◌-ₚ◌
equal_words x y wx wy e = omega arith

-- what is taken away comes back
pub difference_sum : (x y : ℕ) → IsWord x → y +ₚ (x -ₚ y) ≡ x
unfolding ◌+ₚ◌ ◌-ₚ◌
difference_sum x y w = omega arith

-- products
pub product_comm : (x y : ℕ) → x *ₚ y ≡ y *ₚ x
unfolding ◌*ₚ◌
product_comm x y = ap (λ (n : ℕ). n % p) (mul_comm x y)

pub product_one : (x : ℕ) → IsWord x → x *ₚ 1 ≡ x
unfolding ◌*ₚ◌
product_one x w = omega arith

pub product_zero : (x : ℕ) → x *ₚ 0 ≡ 0
unfolding ◌*ₚ◌
product_zero x = omega arith

-- a product of two words is 0 only where a factor is: p is prime
pub factor_is_zero : (x y : ℕ) → IsWord x → IsWord y → x *ₚ y ≡ 0 → (x ≡ 0) ⊎ (y ≡ 0)
unfolding ◌*ₚ◌
factor_is_zero x y wx wy e =
    ⊎_elim (λ (h : x % p ≡ 0). inl (sym (mod-eq_of_lt wx) ∙ h)) (λ (h : y % p ≡ 0). inr (sym (mod-eq_of_lt wy) ∙ h))
    (factor_zero p p_prime x y e)

-- so what the flag constraints say is 0 or 1
pub zero_or_one : (x : ℕ) → IsWord x → x *ₚ (1 -ₚ x) ≡ 0 → (x ≡ 0) ⊎ (x ≡ 1)
zero_or_one x w e =
    ⊎_elim (λ (h : x ≡ 0). inl h) (λ (h : 1 -ₚ x ≡ 0). inr (sym (equal_words 1 x (lit< tt) w h)))
    (factor_is_zero x (1 -ₚ x) w (difference_word 1 x) e)
