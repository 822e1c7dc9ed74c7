-- Two lists are equal by their elements, one after the other.
-- Assumes nothing.
use mathlib.Core.Path.{◌≡◌}
use mathlib.Core.List.{List, ◌∷◌}
use Prim.Native.Nat.{ℕ}

infixr 5 ◌∷≡◌
pub ◌∷≡◌ : {x y : ℕ} {xs ys : List ℕ} → x ≡ y → xs ≡ ys → x ∷ xs ≡ y ∷ ys
(e ∷≡ es) i = e i ∷ es i
