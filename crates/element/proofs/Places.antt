-- Five words are a list by its places.
-- Assumes nothing.
use mathlib.Core.Path.{◌≡◌, refl, ◌∙◌}
use mathlib.Core.List.{List, [], ◌∷◌}
use Prim.Native.Nat.{ℕ, ◌<◌}
use native.Mathlib.Omega.{arith}
use lib.Dec.{lit<}
use lib.ListN.{length}
use Rattle.word.specs.Element.{◌⟨◌⟩}
use Rattle.word.proofs.Lists.{◌∷≡◌}

itself : (c : List ℕ) → length c ≡ 5 → c ≡ c ⟨ 0 ⟩ ∷ c ⟨ 1 ⟩ ∷ c ⟨ 2 ⟩ ∷ c ⟨ 3 ⟩ ∷ c ⟨ 4 ⟩ ∷ []
itself [] h = absurd (omega arith)
itself (a ∷ []) h = absurd (omega arith)
itself (a ∷ b ∷ []) h = absurd (omega arith)
itself (a ∷ b ∷ c ∷ []) h = absurd (omega arith)
itself (a ∷ b ∷ c ∷ d ∷ []) h = absurd (omega arith)
itself (a ∷ b ∷ c ∷ d ∷ e ∷ []) h = refl
itself (a ∷ b ∷ c ∷ d ∷ e ∷ f ∷ l) h = absurd (omega arith)

pub five : (f : ℕ → ℕ) (c : List ℕ) → length c ≡ 5 → ((k : ℕ) → k < 5 → c ⟨ k ⟩ ≡ f k) → c ≡ f 0 ∷ f 1 ∷ f 2 ∷ f 3 ∷ f 4 ∷ []
five f c h is = itself c h ∙ (is 0 (lit< tt) ∷≡ is 1 (lit< tt) ∷≡ is 2 (lit< tt) ∷≡ is 3 (lit< tt) ∷≡ is 4 (lit< tt) ∷≡ refl)
