-- Products over differences, of words and of elements, so that (1 - a)(1 - b) is 1 - a - b + a·b.
-- Assumes nothing.
use mathlib.Core.Path.{◌≡◌, sym, ◌∙◌, ap, ap₂, refl}
use mathlib.Core.List.{List, [], ◌∷◌}
use Prim.Native.Nat.{ℕ, ◌+◌, ◌-◌, ◌*◌, ◌/◌, ◌%◌}
use native.Mathlib.Nat.{add_assoc, add-mul}
use native.Mathlib.Omega.{arith}
use Rattle.word.specs.Word.{p, IsWord, ◌+ₚ◌, ◌-ₚ◌, ◌*ₚ◌}
use Rattle.word.specs.Element.{◌⟨◌⟩, element, ◌+ₑ◌, ◌-ₑ◌, nine, folded, ◌*ₑ◌, peqₑ}
use Rattle.word.proofs.Lists.{◌∷≡◌}
use Rattle.word.proofs.Modulo.{mod_mul}
use Rattle.word.proofs.WordLaws.{sum_word, sum_comm, sum_zero, difference_zero, product_zero}
use Rattle.word.proofs.ElementLaws.{zero_word, zero_sum, sum_left_comm, element_product_one, element_product_comm, difference_element}

-- words
mod_left : (m n : ℕ) → (m % p + n) % p ≡ (m + n) % p
mod_left m n = omega arith

-- what is added may be any of its class
class : (x u w : ℕ) → u % p ≡ w % p → (x + u) % p ≡ (x + w) % p
class x u w e = omega arith

opposite : (u v w m : ℕ) → u + v ≡ p * m → v % p ≡ w % p → u % p ≡ (p - w % p % p) % p
opposite u v w m e f = omega arith

spread : (x y z u : ℕ) → u + y % p ≡ p → (x + u) * z % p ≡ (x * z % p + (p - y * z % p % p)) % p
spread x y z u e =
    let whole : u * z + y % p * z ≡ p * z = sym (add-mul u (y % p) z) ∙ ap (λ (n : ℕ). n * z) e in
    ap (λ (n : ℕ). n % p) (add-mul x u z)
    ∙ class (x * z) (u * z) (p - y * z % p % p) (opposite (u * z) (y % p * z) (y * z) z whole (mod_mul y z p))
    ∙ sym (mod_left (x * z) (p - y * z % p % p))

pub product_difference : (x y z : ℕ) → (x -ₚ y) *ₚ z ≡ x *ₚ z -ₚ y *ₚ z
unfolding ◌-ₚ◌ ◌*ₚ◌
product_difference x y z = mod_mul (x + (p - y % p)) z p ∙ spread x y z (p - y % p) (omega arith)

pub sum_difference_right : (x y z : ℕ) → x +ₚ (y -ₚ z) ≡ x +ₚ y -ₚ z
unfolding ◌+ₚ◌ ◌-ₚ◌
sum_difference_right x y z = omega arith

pub sum_difference_left : (x y z : ℕ) → x -ₚ y +ₚ z ≡ x +ₚ z -ₚ y
unfolding ◌+ₚ◌ ◌-ₚ◌
sum_difference_left x y z = omega arith

opposite_sum : (y z : ℕ) → (p - y % p + (p - z % p)) % p ≡ (p - (y + z) % p % p) % p
opposite_sum y z = opposite (p - y % p + (p - z % p)) (y % p + z % p) (y + z) 2 (omega arith) (omega arith)

pub difference_twice : (x y z : ℕ) → x -ₚ y -ₚ z ≡ x -ₚ (y +ₚ z)
unfolding ◌+ₚ◌ ◌-ₚ◌
difference_twice x y z =
    mod_left (x + (p - y % p)) (p - z % p)
    ∙ ap (λ (n : ℕ). n % p) (add_assoc x (p - y % p) (p - z % p))
    ∙ class x (p - y % p + (p - z % p)) (p - (y + z) % p % p) (opposite_sum y z)

opposite_difference : (y z : ℕ) → (z + (p - y % p)) % p ≡ (p - (y + (p - z % p)) % p % p) % p
opposite_difference y z =
    opposite (z + (p - y % p)) (y % p + (p - z % p)) (y + (p - z % p)) (2 + z / p) (omega arith) (mod_left y (p - z % p))

pub difference_back : (x y z : ℕ) → x -ₚ (y -ₚ z) ≡ x +ₚ z -ₚ y
unfolding ◌+ₚ◌ ◌-ₚ◌
difference_back x y z =
    class x (p - (y + (p - z % p)) % p % p) (z + (p - y % p)) (sym (opposite_difference y z))
    ∙ ap (λ (n : ℕ). n % p) (sym (add_assoc x z (p - y % p)))
    ∙ sym (mod_left (x + z) (p - y % p))

sum_differences : (x y z w : ℕ) → (x -ₚ y) +ₚ (z -ₚ w) ≡ (x +ₚ z) -ₚ (y +ₚ w)
sum_differences x y z w =
    sum_difference_right (x -ₚ y) z w
    ∙ ap (λ (n : ℕ). n -ₚ w) (sum_difference_left x y z)
    ∙ difference_twice (x +ₚ z) y w

difference_differences : (x y z w : ℕ) → (x -ₚ y) -ₚ (z -ₚ w) ≡ (x +ₚ w) -ₚ (y +ₚ z)
difference_differences x y z w =
    difference_back (x -ₚ y) z w
    ∙ ap (λ (n : ℕ). n -ₚ z) (sum_difference_left x y w)
    ∙ difference_twice (x +ₚ w) y z

product_with_one : (x : ℕ) → x *ₚ 1 ≡ x +ₚ 0
unfolding ◌+ₚ◌ ◌*ₚ◌
product_with_one x = omega arith

twice_and : (c o : ℕ) → c +ₚ c +ₚ o ≡ c +ₚ (o +ₚ c)
unfolding ◌+ₚ◌
twice_and c o = omega arith

both_from : (a b : ℕ) → a +ₚ b ≡ b +ₚ (a +ₚ 0)
unfolding ◌+ₚ◌
both_from a b = omega arith

one_product : (c a b o : ℕ) → c +ₚ c +ₚ o -ₚ (a +ₚ b) ≡ c +ₚ ((o -ₚ b) -ₚ ((a +ₚ 0) -ₚ c))
one_product c a b o =
    ap₂ (λ (m n : ℕ). m -ₚ n) (twice_and c o) (both_from a b)
    ∙ sym (sum_difference_right c (o +ₚ c) (b +ₚ (a +ₚ 0)))
    ∙ ap (λ (n : ℕ). c +ₚ n) (sym (difference_differences o b (a +ₚ 0) c))

-- elements: the product is linear, coefficient by coefficient
unfoldable minus : List ℕ → List ℕ → List ℕ
minus d e =
    (d ⟨ 0 ⟩ -ₚ e ⟨ 0 ⟩)
    ∷ (d ⟨ 1 ⟩ -ₚ e ⟨ 1 ⟩)
    ∷ (d ⟨ 2 ⟩ -ₚ e ⟨ 2 ⟩)
    ∷ (d ⟨ 3 ⟩ -ₚ e ⟨ 3 ⟩)
    ∷ (d ⟨ 4 ⟩ -ₚ e ⟨ 4 ⟩)
    ∷ (d ⟨ 5 ⟩ -ₚ e ⟨ 5 ⟩)
    ∷ (d ⟨ 6 ⟩ -ₚ e ⟨ 6 ⟩)
    ∷ (d ⟨ 7 ⟩ -ₚ e ⟨ 7 ⟩)
    ∷ (d ⟨ 8 ⟩ -ₚ e ⟨ 8 ⟩)
    ∷ []

nine_difference : (x a c : List ℕ) → nine (x -ₑ a) c ≡ minus (nine x c) (nine a c)
unfolding nine ◌-ₑ◌ minus
nine_difference x a c = simp (product_difference, sum_differences)

folded_difference : (d e : List ℕ) → folded (minus d e) ≡ folded d -ₑ folded e
unfolding folded ◌-ₑ◌ minus
folded_difference d e = simp (sum_differences, difference_differences, sum_comm, sum_left_comm)

pub element_product_difference : (x a c : List ℕ) → (x -ₑ a) *ₑ c ≡ x *ₑ c -ₑ a *ₑ c
unfolding ◌*ₑ◌
element_product_difference x a c = ap folded (nine_difference x a c) ∙ folded_difference (nine x c) (nine a c)

-- 1 times any five numbers
times_one : (a : List ℕ) → a *ₑ element 1 ≡ a +ₑ element 0
unfolding ◌*ₑ◌ nine folded ◌+ₑ◌
times_one a =
    let w : (x : ℕ) → IsWord (x +ₚ 0) = λ (x : ℕ). sum_word x 0 in
    let z = zero_word in
    simp (product_zero, product_with_one, sum_zero, zero_sum, difference_zero, w)

opposites : (a b : List ℕ) → (element 1 -ₑ a) *ₑ (element 1 -ₑ b) ≡ (element 1 -ₑ b) -ₑ ((a +ₑ element 0) -ₑ a *ₑ b)
opposites a b =
    let one = element 1 in
    element_product_difference one a (one -ₑ b)
    ∙ ap₂ (λ (m n : List ℕ). m -ₑ n)
    (element_product_comm one (one -ₑ b) ∙ element_product_one (one -ₑ b) (difference_element one b))
    (element_product_comm a (one -ₑ b)
    ∙ element_product_difference one b a
    ∙ ap₂ (λ (m n : List ℕ). m -ₑ n) (element_product_comm one a ∙ times_one a) (element_product_comm b a))

by_coordinates : (c a b : List ℕ) → c +ₑ c +ₑ element 1 -ₑ (a +ₑ b) ≡ c +ₑ ((element 1 -ₑ b) -ₑ ((a +ₑ element 0) -ₑ c))
unfolding ◌+ₑ◌ ◌-ₑ◌
by_coordinates c a b =
    one_product _ _ _ _
    ∷≡ one_product _ _ _ _
    ∷≡ one_product _ _ _ _
    ∷≡ one_product _ _ _ _
    ∷≡ one_product _ _ _ _
    ∷≡ refl

-- peq by one product: 2·a·b + 1 - (a + b)
pub peq_once : (a b : List ℕ) → a *ₑ b +ₑ a *ₑ b +ₑ element 1 -ₑ (a +ₑ b) ≡ peqₑ a b
unfolding peqₑ
peq_once a b = by_coordinates (a *ₑ b) a b ∙ ap (λ (e : List ℕ). a *ₑ b +ₑ e) (sym (opposites a b))
