-- What one rule says of words: each is a factor times a difference. At factor 1 the two words are equal, and at factor
-- 0 it says nothing.
-- Assumes nothing.
use mathlib.Core.Path.{◌≡◌, sym, ◌∙◌, ap}
use Prim.Native.Nat.{ℕ, ◌+◌, ◌<◌}
use native.Mathlib.Omega.{arith}
use lib.Dec.{T, eqb→eq}
use Rattle.word.specs.Word.{p, IsWord, ◌+ₚ◌, ◌-ₚ◌, ◌*ₚ◌}
use Rattle.word.proofs.WordLaws.{difference_word, difference_self, equal_words, product_comm, product_one, product_zero}
use Rattle.rules.specs.Given.{zero?}
use Rattle.word.proofs.Tests.{eq→eqb}

-- a product by 0 and by 1, as J is JUMP times a value
pub off_times : {f : ℕ} (x : ℕ) → f ≡ 0 → f *ₚ x ≡ 0
off_times {f} x z = ap (λ (n : ℕ). n *ₚ x) z ∙ product_comm 0 x ∙ product_zero x

pub on_times : {f : ℕ} (x : ℕ) → f ≡ 1 → IsWord x → f *ₚ x ≡ x
on_times {f} x one w = ap (λ (n : ℕ). n *ₚ x) one ∙ product_comm 1 x ∙ product_one x w

pub says_equal : {f x y : ℕ} → f ≡ 1 → IsWord x → IsWord y → T (zero? (f *ₚ (x -ₚ y))) → x ≡ y
says_equal {f} {x} {y} one wx wy t = equal_words x y wx wy (sym (on_times (x -ₚ y) one (difference_word x y)) ∙ eqb→eq _ 0 t)

pub holds_off : {f : ℕ} (d : ℕ) → f ≡ 0 → T (zero? (f *ₚ d))
holds_off d z = eq→eqb (off_times d z)

pub holds_equal : (f : ℕ) {x y : ℕ} → x ≡ y → T (zero? (f *ₚ (x -ₚ y)))
holds_equal f e = rw (e, difference_self, product_zero) tt

-- pc + 1 does not wrap
pub next_pc : (pc : ℕ) → pc + 1 < p → pc +ₚ 1 ≡ pc + 1
unfolding ◌+ₚ◌
next_pc pc h = omega arith
