-- Nine coefficients of which four are folded back are five sums, over the words of a by those of b, b·X, .. b·X^4.
-- Assumes nothing.
use mathlib.Core.Path.{◌≡◌, ◌∙◌, ap, ap₂, refl}
use mathlib.Core.List.{List, [], ◌∷◌}
use Prim.Native.Nat.{ℕ, zero, suc, ◌+◌, ◌*◌, ◌%◌}
use native.Mathlib.Nat.{add-zero, mul_comm, mul-add}
use native.Mathlib.Numerals.{add-one}
use native.Mathlib.Omega.{arith}
use Rattle.word.specs.Word.{p, ◌+ₚ◌, ◌-ₚ◌, ◌*ₚ◌}
use Rattle.word.specs.Element.{◌⟨◌⟩, IsElement, element, ◌+ₑ◌, ◌·ₑ◌, nine, folded, ◌*ₑ◌}
use Rattle.word.proofs.Modulo.{mod_mul}
use Rattle.word.proofs.WordLaws.{sum_comm, sum_assoc, product_comm, product_word, difference_word}
use Rattle.word.proofs.ElementLaws.{sum_left_comm, element_product_comm, zero_sum, five_words_lem}
use Rattle.element.specs.Sums.{times_x}
use Rattle.element.proofs.DifferenceLaws.{product_difference, sum_difference_right, sum_difference_left, difference_twice, difference_back}

pub sum_reduced : (m n : ℕ) → (m + n) % p ≡ (m % p + n % p) % p
sum_reduced m n = omega arith

product_over_sum : (x y z : ℕ) → x *ₚ (y +ₚ z) ≡ x *ₚ y +ₚ x *ₚ z
unfolding ◌+ₚ◌ ◌*ₚ◌
product_over_sum x y z =
    ap (λ (n : ℕ). n % p) (mul_comm x ((y + z) % p))
    ∙ mod_mul (y + z) x p
    ∙ ap (λ (n : ℕ). n % p) (mul_comm (y + z) x ∙ mul-add x y z)
    ∙ sum_reduced (x * y) (x * z)

-- a factor may be reduced first
reduced_factor : (x y : ℕ) → (x +ₚ 0) *ₚ y ≡ x *ₚ y
unfolding ◌+ₚ◌ ◌*ₚ◌
reduced_factor x y = mod_mul (x + 0) y p ∙ ap (λ (n : ℕ). n * y % p) (add-zero x)

nine_reduced : (a b : List ℕ) → nine (a +ₑ element 0) b ≡ nine a b
unfolding nine ◌+ₑ◌
nine_reduced a b = simp reduced_factor

left_reduced : (a b : List ℕ) → (a +ₑ element 0) *ₑ b ≡ a *ₑ b
unfolding ◌*ₑ◌
left_reduced a b = ap folded (nine_reduced a b)

pub both_reduced : (a b : List ℕ) → (a +ₑ element 0) *ₑ (b +ₑ element 0) ≡ a *ₑ b
both_reduced a b =
    left_reduced a (b +ₑ element 0)
    ∙ element_product_comm a (b +ₑ element 0)
    ∙ left_reduced b a
    ∙ element_product_comm b a

product_over : (x y z : ℕ) → x *ₚ (y -ₚ z) ≡ x *ₚ y -ₚ x *ₚ z
product_over x y z =
    product_comm x (y -ₚ z) ∙ product_difference y z x ∙ ap₂ (λ (m n : ℕ). m -ₚ n) (product_comm y x) (product_comm z x)

times_x_element : (b : List ℕ) → IsElement b → IsElement (times_x b)
unfolding times_x
times_x_element b e =
    let w = e.all_words in
    five_words_lem (w 4) (w 0) (difference_word _ _) (w 2) (w 3)

nothing_and : (x y : ℕ) → 0 +ₚ x *ₚ y ≡ x *ₚ y
nothing_and x y = zero_sum (x *ₚ y) (product_word x y)

folded_of : (d₀ d₁ d₂ d₃ d₄ d₅ d₆ d₇ d₈ : ℕ) → folded (d₀ ∷ d₁ ∷ d₂ ∷ d₃ ∷ d₄ ∷ d₅ ∷ d₆ ∷ d₇ ∷ d₈ ∷ [])
    ≡ (d₀ +ₚ d₅ -ₚ d₈) ∷ (d₁ +ₚ d₆) ∷ (d₂ +ₚ d₇ +ₚ d₈ -ₚ d₅) ∷ (d₃ +ₚ d₈ -ₚ d₆) ∷ (d₄ -ₚ d₇) ∷ []
unfolding folded
folded_of d₀ d₁ d₂ d₃ d₄ d₅ d₆ d₇ d₈ = refl

-- b·X^k, and the words of a below k by b, b·X, .. summed
unfoldable pub shifted : ℕ → List ℕ → List ℕ
shifted zero b = b
shifted (suc k) b = times_x (shifted k b)

unfoldable pub in_sums : ℕ → List ℕ → List ℕ → List ℕ
in_sums zero a b = element 0
in_sums (suc k) a b = in_sums k a b +ₑ a ⟨ k ⟩ ·ₑ shifted k b

pub shifted_next : (k : ℕ) (b : List ℕ) → times_x (shifted k b) ≡ shifted (k + 1) b
unfolding shifted
shifted_next k b = rw (add-one k)

pub sums_next : (k : ℕ) (a b : List ℕ) → in_sums k a b +ₑ a ⟨ k ⟩ ·ₑ shifted k b ≡ in_sums (k + 1) a b
unfolding in_sums
sums_next k a b = rw (add-one k)

pub shifted_element : (k : ℕ) (b : List ℕ) → IsElement b → IsElement (shifted k b)
unfolding shifted
shifted_element zero b e = e
shifted_element (suc k) b e = times_x_element (shifted k b) (shifted_element k b e)

-- the same, word by word
abbrev along : List ℕ → ℕ → ℕ → ℕ → ℕ → ℕ → ℕ
along a x₀ x₁ x₂ x₃ x₄ = 0 +ₚ a ⟨ 0 ⟩ *ₚ x₀ +ₚ a ⟨ 1 ⟩ *ₚ x₁ +ₚ a ⟨ 2 ⟩ *ₚ x₂ +ₚ a ⟨ 3 ⟩ *ₚ x₃ +ₚ a ⟨ 4 ⟩ *ₚ x₄

word_by_word : (a b : List ℕ) → in_sums 5 a b
    ≡ along a (b ⟨ 0 ⟩) (b ⟨ 4 ⟩) (b ⟨ 3 ⟩) (b ⟨ 2 ⟩) (b ⟨ 1 ⟩ -ₚ b ⟨ 4 ⟩)
    ∷ along a (b ⟨ 1 ⟩) (b ⟨ 0 ⟩) (b ⟨ 4 ⟩) (b ⟨ 3 ⟩) (b ⟨ 2 ⟩)
    ∷ along a (b ⟨ 2 ⟩) (b ⟨ 1 ⟩ -ₚ b ⟨ 4 ⟩) (b ⟨ 0 ⟩ -ₚ b ⟨ 3 ⟩) (b ⟨ 4 ⟩ -ₚ b ⟨ 2 ⟩) (b ⟨ 3 ⟩ -ₚ (b ⟨ 1 ⟩ -ₚ b ⟨ 4 ⟩))
    ∷ along a (b ⟨ 3 ⟩) (b ⟨ 2 ⟩) (b ⟨ 1 ⟩ -ₚ b ⟨ 4 ⟩) (b ⟨ 0 ⟩ -ₚ b ⟨ 3 ⟩) (b ⟨ 4 ⟩ -ₚ b ⟨ 2 ⟩)
    ∷ along a (b ⟨ 4 ⟩) (b ⟨ 3 ⟩) (b ⟨ 2 ⟩) (b ⟨ 1 ⟩ -ₚ b ⟨ 4 ⟩) (b ⟨ 0 ⟩ -ₚ b ⟨ 3 ⟩)
    ∷ []
unfolding in_sums shifted times_x ◌+ₑ◌ ◌·ₑ◌
word_by_word a b = refl

pub by_sums : (a b : List ℕ) → in_sums 5 a b ≡ a *ₑ b
unfolding ◌*ₑ◌ nine
by_sums a b =
    word_by_word a b
    ∙ simp (folded_of, nothing_and, product_over, product_over_sum, sum_difference_right, sum_difference_left, difference_twice, difference_back, sum_comm, sum_assoc, sum_left_comm)
