-- The laws of words and elements that the constraints of the extension table are read by.
-- Assumes nothing.
use mathlib.Core.Path.{◌≡◌, refl, sym, ◌∙◌, ap}
use mathlib.Core.List.{List, [], ◌∷◌}
use Prim.Native.Nat.{ℕ, ◌+◌, ◌<◌, ◌≤◌}
use native.Mathlib.Omega.{arith}
use lib.Dec.{T, eqb→eq}
use Rattle.word.specs.Word.{IsWord, ◌+ₚ◌, ◌-ₚ◌, ◌*ₚ◌}
use Rattle.word.specs.Element.{◌⟨◌⟩, IsElement, element, ◌+ₑ◌, ◌-ₑ◌, ◌·ₑ◌}
use Rattle.word.proofs.Lists.{◌∷≡◌}
use Rattle.word.proofs.WordLaws.{difference_self, product_zero}
use Rattle.word.proofs.ElementLaws.{its_words, five_words_lem, element_sum_comm, element_sum_zero, scale_one, scale_zero}
use Rattle.rules.specs.Given.{Given, zero?, zero_element?}
use Rattle.machine.specs.Extension.{element_at}
use Rattle.word.proofs.Tests.{apart, eq→eqb}
use Rattle.run_steps.proofs.Words.{on_times}

-- what is left of a word after two is 0 exactly where it is their sum
pub two_taken : (x y z : ℕ) → IsWord x → x -ₚ y -ₚ z ≡ 0 → x ≡ y +ₚ z
unfolding ◌+ₚ◌ ◌-ₚ◌
two_taken x y z w e = omega arith

pub take_two : (x y z : ℕ) → x ≡ y +ₚ z → x -ₚ y -ₚ z ≡ 0
unfolding ◌+ₚ◌ ◌-ₚ◌
take_two x y z e = omega arith

-- a rule whose factor is 1 says that the other is 0, and one with a factor 0 holds
pub one_factor : (f x : ℕ) → f ≡ 1 → IsWord x → T (zero? (f *ₚ x)) → x ≡ 0
one_factor f x one w t = sym (on_times x one w) ∙ eqb→eq _ 0 t

pub second_zero : (f x : ℕ) → x ≡ 0 → T (zero? (f *ₚ x))
second_zero f x z = eq→eqb (ap (λ (n : ℕ). f *ₚ n) z ∙ product_zero f)

-- the same for a rule on elements
zero_element : (a : List ℕ) → IsElement a → T (zero_element? a) → a ≡ element 0
zero_element a ea t =
    let (z₀, (z₁, (z₂, (z₃, z₄)))) = apart (zero? (a ⟨ 0 ⟩)) (zero? (a ⟨ 1 ⟩) ∷ zero? (a ⟨ 2 ⟩) ∷ zero? (a ⟨ 3 ⟩) ∷ zero? (a ⟨ 4 ⟩) ∷ []) t in
    its_words a ea.five_long
    ∙ (eqb→eq _ 0 z₀ ∷≡ eqb→eq _ 0 z₁ ∷≡ eqb→eq _ 0 z₂ ∷≡ eqb→eq _ 0 z₃ ∷≡ eqb→eq _ 0 z₄ ∷≡ refl)

pub one_scale : (f : ℕ) (a : List ℕ) → f ≡ 1 → IsElement a → T (zero_element? (f ·ₑ a)) → a ≡ element 0
one_scale f a one ea t =
    let same : f ·ₑ a ≡ a = ap (λ (n : ℕ). n ·ₑ a) one ∙ scale_one a ea in
    zero_element a ea (rw same at t)

pub first_scale : (f : ℕ) (a : List ℕ) → f ≡ 0 → T (zero_element? (f ·ₑ a))
first_scale f a z = rw (z, scale_zero) tt

pub second_scale : (f : ℕ) (a : List ℕ) → a ≡ element 0 → T (zero_element? (f ·ₑ a))
unfolding ◌·ₑ◌
second_scale f a z = rw (z, product_zero) tt

-- differences of elements
pub element_difference_self : (a b : List ℕ) → a ≡ b → a -ₑ b ≡ element 0
unfolding ◌-ₑ◌
element_difference_self a b e = rw e (simp difference_self)

pub two_elements_taken : (a b c : List ℕ) → IsElement a → a -ₑ b -ₑ c ≡ element 0 → a ≡ b +ₑ c
unfolding ◌-ₑ◌ ◌+ₑ◌
two_elements_taken a b c ea e =
    its_words a ea.five_long
    ∙ (at 0 (ap (λ (l : List ℕ). l ⟨ 0 ⟩) e)
    ∷≡ at 1 (ap (λ (l : List ℕ). l ⟨ 1 ⟩) e)
    ∷≡ at 2 (ap (λ (l : List ℕ). l ⟨ 2 ⟩) e)
    ∷≡ at 3 (ap (λ (l : List ℕ). l ⟨ 3 ⟩) e)
    ∷≡ at 4 (ap (λ (l : List ℕ). l ⟨ 4 ⟩) e)
    ∷≡ refl)
  where
    at : (k : ℕ) → a ⟨ k ⟩ -ₚ b ⟨ k ⟩ -ₚ c ⟨ k ⟩ ≡ 0 → a ⟨ k ⟩ ≡ b ⟨ k ⟩ +ₚ c ⟨ k ⟩
    at k z = two_taken (a ⟨ k ⟩) (b ⟨ k ⟩) (c ⟨ k ⟩) (ea.all_words k) z

pub equal_elements : (a b : List ℕ) → IsElement a → IsElement b → a -ₑ b ≡ element 0 → a ≡ b
equal_elements a b ea eb e =
    two_elements_taken a b (element 0) ea (ap (λ (d : List ℕ). d -ₑ element 0) e ∙ element_difference_self (element 0) (element 0) refl)
    ∙ element_sum_zero b eb

pub take_two_elements : (a b c : List ℕ) → a ≡ b +ₑ c → a -ₑ b -ₑ c ≡ element 0
unfolding ◌-ₑ◌ ◌+ₑ◌
take_two_elements a b c e = rw e (at 0 ∷≡ at 1 ∷≡ at 2 ∷≡ at 3 ∷≡ at 4 ∷≡ refl)
  where
    at : (k : ℕ) → b ⟨ k ⟩ +ₚ c ⟨ k ⟩ -ₚ b ⟨ k ⟩ -ₚ c ⟨ k ⟩ ≡ 0
    at k = take_two (b ⟨ k ⟩ +ₚ c ⟨ k ⟩) (b ⟨ k ⟩) (c ⟨ k ⟩) refl

pub zero_sum_element : (a : List ℕ) → IsElement a → element 0 +ₑ a ≡ a
zero_sum_element a ea = element_sum_comm (element 0) a ∙ element_sum_zero a ea

-- five cells that are words are an element
pub cells_element : (g : Given) (words : (k : ℕ) → k < g.size → IsWord (g.cell k)) (k : ℕ) → k + 5 ≤ g.size → IsElement (element_at g.cell k)
cells_element g words k h =
    five_words_lem (words k (omega arith)) (words (k + 1) (omega arith)) (words (k + 2) (omega arith)) (words (k + 3) (omega arith))
    (words (k + 4) (omega arith))
