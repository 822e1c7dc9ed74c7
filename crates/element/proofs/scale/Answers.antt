-- `element::scale` meets its contract: 0 and 1 take no product, any other goes place by place.
-- Assumes nothing.
use borrow.Author.Rules.{rules}
use mathlib.Core.Path.{◌≡◌, refl, sym}
use mathlib.Core.List.{List, [], ◌∷◌}
use Prim.Native.Nat.{ℕ}
use native.Mathlib.Omega.{arith}
use Rattle.word.proofs.Lists.{◌∷≡◌}
use Rattle.word.specs.Word.{◌+ₚ◌, ◌*ₚ◌}
use Rattle.word.specs.Element.{◌+ₑ◌, ◌·ₑ◌, ◌⟨◌⟩}
use Rattle.word.proofs.ElementLaws.{scale_zero}
use Rattle.element.proofs.Places.{five}
use Rattle.element.proofs.scale.Goals as goal

once : (x : ℕ) → x +ₚ 0 ≡ 1 *ₚ x
unfolding ◌+ₚ◌ ◌*ₚ◌
once x = omega arith

scaled_once : (a : List ℕ) → a +ₑ (0 ∷ 0 ∷ 0 ∷ 0 ∷ 0 ∷ []) ≡ 1 ·ₑ a
unfolding ◌+ₑ◌ ◌·ₑ◌
scaled_once a = once (a ⟨ 0 ⟩) ∷≡ once (a ⟨ 1 ⟩) ∷≡ once (a ⟨ 2 ⟩) ∷≡ once (a ⟨ 3 ⟩) ∷≡ once (a ⟨ 4 ⟩) ∷≡ refl

pub returns-in-0 : goal.returns-in-0
returns-in-0 c = rw c.in-0.is (sym (scale_zero _))

pub returns-in-1 : goal.returns-in-1
returns-in-1 c = rw (c.in-1.is, c.sum.ensures) (scaled_once _)

pub returns-in_default : goal.returns-in_default
unfolding ◌·ₑ◌
returns-in_default c = five (λ k. (c.args.x ∷ c.args.x ∷ c.args.x ∷ c.args.x ∷ c.args.x ∷ []) ⟨ k ⟩ *ₚ c.args.a ⟨ k ⟩) _ (search rules) c.by_place.ensures
