-- The laws of elements, so that no caller unfolds a sum or a product.
-- Assumes nothing.
use mathlib.Core.Path.{◌≡◌, sym, ◌∙◌, ap, refl}
use mathlib.Core.List.{List, [], ◌∷◌}
use Prim.Native.Nat.{ℕ, zero, suc}
use native.Mathlib.Omega.{arith}
use lib.Dec.{lit<}
use lib.ListN.{length, get_or}
use Rattle.word.specs.Word.{IsWord, ◌+ₚ◌}
use Rattle.word.specs.Element.{◌⟨◌⟩, IsElement, element, ◌+ₑ◌, ◌-ₑ◌, nine, folded, ◌·ₑ◌, ◌*ₑ◌}
use Rattle.word.proofs.WordLaws.{sum_word, difference_word, sum_comm, sum_assoc, sum_zero, difference_zero, product_comm, product_one, product_zero}
use Rattle.word.proofs.Lists.{◌∷≡◌}

pub zero_word : IsWord 0
zero_word = lit< tt

-- five words are an element
pub five_words_lem : {x₀ x₁ x₂ x₃ x₄ : ℕ} → IsWord x₀ → IsWord x₁ → IsWord x₂ → IsWord x₃ → IsWord x₄ → IsElement (x₀ ∷ x₁ ∷ x₂ ∷ x₃ ∷ x₄ ∷ [])
five_words_lem {x₀} {x₁} {x₂} {x₃} {x₄} w₀ w₁ w₂ w₃ w₄ = record { five_long = refl; all_words = at }
  where
    at : (k : ℕ) → IsWord (get_or (x₀ ∷ x₁ ∷ x₂ ∷ x₃ ∷ x₄ ∷ []) k 0)
    at zero = w₀
    at (suc zero) = w₁
    at (suc (suc zero)) = w₂
    at (suc (suc (suc zero))) = w₃
    at (suc (suc (suc (suc zero)))) = w₄
    at (suc (suc (suc (suc (suc k))))) = zero_word

pub word_element : (x : ℕ) → IsWord x → IsElement (element x)
word_element x w = five_words_lem w zero_word zero_word zero_word zero_word

pub sum_element : (a b : List ℕ) → IsElement (a +ₑ b)
unfolding ◌+ₑ◌
sum_element a b = five_words_lem (sum_word _ _) (sum_word _ _) (sum_word _ _) (sum_word _ _) (sum_word _ _)

pub difference_element : (a b : List ℕ) → IsElement (a -ₑ b)
unfolding ◌-ₑ◌
difference_element a b =
    five_words_lem (difference_word _ _) (difference_word _ _) (difference_word _ _) (difference_word _ _) (difference_word _ _)

pub product_element : (a b : List ℕ) → IsElement (a *ₑ b)
unfolding ◌*ₑ◌ folded
product_element a b = five_words_lem (difference_word _ _) (sum_word _ _) (difference_word _ _) (difference_word _ _) (difference_word _ _)

-- an element is its five words
pub its_words : (a : List ℕ) → length a ≡ 5 → a ≡ a ⟨ 0 ⟩ ∷ a ⟨ 1 ⟩ ∷ a ⟨ 2 ⟩ ∷ a ⟨ 3 ⟩ ∷ a ⟨ 4 ⟩ ∷ []
its_words (x₀ ∷ x₁ ∷ x₂ ∷ x₃ ∷ x₄ ∷ []) e = refl
its_words [] e = absurd (omega arith)
its_words (x₀ ∷ []) e = absurd (omega arith)
its_words (x₀ ∷ x₁ ∷ []) e = absurd (omega arith)
its_words (x₀ ∷ x₁ ∷ x₂ ∷ []) e = absurd (omega arith)
its_words (x₀ ∷ x₁ ∷ x₂ ∷ x₃ ∷ []) e = absurd (omega arith)
its_words (x₀ ∷ x₁ ∷ x₂ ∷ x₃ ∷ x₄ ∷ x₅ ∷ xs) e = absurd (omega arith)

pub element_sum_comm : (a b : List ℕ) → a +ₑ b ≡ b +ₑ a
unfolding ◌+ₑ◌
element_sum_comm a b = sum_comm _ _ ∷≡ sum_comm _ _ ∷≡ sum_comm _ _ ∷≡ sum_comm _ _ ∷≡ sum_comm _ _ ∷≡ refl

pub element_sum_zero : (a : List ℕ) → IsElement a → a +ₑ element 0 ≡ a
unfolding ◌+ₑ◌
element_sum_zero a ea =
    let w = ea.all_words in
    (sum_zero _ (w 0) ∷≡ sum_zero _ (w 1) ∷≡ sum_zero _ (w 2) ∷≡ sum_zero _ (w 3) ∷≡ sum_zero _ (w 4) ∷≡ refl)
    ∙ sym (its_words a ea.five_long)

pub zero_sum : (x : ℕ) → IsWord x → 0 +ₚ x ≡ x
zero_sum x w = sum_comm 0 x ∙ sum_zero x w

pub element_product_one : (a : List ℕ) → IsElement a → a *ₑ element 1 ≡ a
unfolding ◌*ₑ◌ nine folded
element_product_one a ea =
    let w = ea.all_words in
    let z = zero_word in
    simp (product_zero, product_one, sum_zero, zero_sum, difference_zero, w) (sym (its_words a ea.five_long))

pub sum_left_comm : (x y z : ℕ) → x +ₚ (y +ₚ z) ≡ y +ₚ (x +ₚ z)
sum_left_comm x y z = sym (sum_assoc x y z) ∙ ap (λ (s : ℕ). s +ₚ z) (sum_comm x y) ∙ sum_assoc y x z

-- each coefficient is the same products, summed from the other end
nine_comm : (a b : List ℕ) → nine a b ≡ nine b a
unfolding nine
nine_comm a b = simp (product_comm, sum_comm, sum_assoc, sum_left_comm)

pub element_product_comm : (a b : List ℕ) → a *ₑ b ≡ b *ₑ a
unfolding ◌*ₑ◌
element_product_comm a b = ap folded (nine_comm a b)

pub scale_zero : (a : List ℕ) → 0 ·ₑ a ≡ element 0
unfolding ◌·ₑ◌
scale_zero a = simp (product_comm 0, product_zero)

pub scale_one : (a : List ℕ) → IsElement a → 1 ·ₑ a ≡ a
unfolding ◌·ₑ◌
scale_one a ea = let w = ea.all_words in simp (product_comm 1, product_one, w) (sym (its_words a ea.five_long))
