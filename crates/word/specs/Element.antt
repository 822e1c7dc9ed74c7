-- Document 01, "Words and elements"; draft 0.6.0, 2.5.2: an extension element is five words, lowest power first.
-- The house rule is X^5 = 1 - X^2, so X^6 = X - X^3, X^7 = X^2 - X^4 and X^8 = X^3 + X^2 - 1.
use Rattle.std.specs.Prelude.{ℕ, List, [], ◌∷◌, length, get_or, ◌≡◌}
use Rattle.word.specs.Word.{IsWord, ◌+ₚ◌, ◌-ₚ◌, ◌*ₚ◌}

infixl 90 ◌⟨◌⟩
infixl 65 ◌+ₑ◌
infixl 65 ◌-ₑ◌
infixl 70 ◌*ₑ◌
infixl 70 ◌·ₑ◌
-- the coefficient of X^k
abbrev pub ◌⟨◌⟩ : List ℕ → ℕ → ℕ
a ⟨ k ⟩ = get_or a k 0

pub record IsElement (a : List ℕ) : Type 0 where
  pub five_long : length a ≡ 5
  pub all_words : (k : ℕ) → IsWord (a ⟨ k ⟩)

-- a word as an element
abbrev pub element : ℕ → List ℕ
element x = x ∷ 0 ∷ 0 ∷ 0 ∷ 0 ∷ []

unfoldable pub ◌+ₑ◌ : List ℕ → List ℕ → List ℕ
a +ₑ b =
    (a ⟨ 0 ⟩ +ₚ b ⟨ 0 ⟩)
    ∷ (a ⟨ 1 ⟩ +ₚ b ⟨ 1 ⟩)
    ∷ (a ⟨ 2 ⟩ +ₚ b ⟨ 2 ⟩)
    ∷ (a ⟨ 3 ⟩ +ₚ b ⟨ 3 ⟩)
    ∷ (a ⟨ 4 ⟩ +ₚ b ⟨ 4 ⟩)
    ∷ []

unfoldable pub ◌-ₑ◌ : List ℕ → List ℕ → List ℕ
a -ₑ b =
    (a ⟨ 0 ⟩ -ₚ b ⟨ 0 ⟩)
    ∷ (a ⟨ 1 ⟩ -ₚ b ⟨ 1 ⟩)
    ∷ (a ⟨ 2 ⟩ -ₚ b ⟨ 2 ⟩)
    ∷ (a ⟨ 3 ⟩ -ₚ b ⟨ 3 ⟩)
    ∷ (a ⟨ 4 ⟩ -ₚ b ⟨ 4 ⟩)
    ∷ []

-- a word times an element
unfoldable pub ◌·ₑ◌ : ℕ → List ℕ → List ℕ
x ·ₑ a =
    (x *ₚ a ⟨ 0 ⟩) ∷ (x *ₚ a ⟨ 1 ⟩) ∷ (x *ₚ a ⟨ 2 ⟩) ∷ (x *ₚ a ⟨ 3 ⟩) ∷ (x *ₚ a ⟨ 4 ⟩) ∷ []

-- the nine coefficients of the product of two polynomials, before X^5 is folded back
unfoldable pub nine : List ℕ → List ℕ → List ℕ
nine a b =
    (a ⟨ 0 ⟩ *ₚ b ⟨ 0 ⟩)
    ∷ (a ⟨ 0 ⟩ *ₚ b ⟨ 1 ⟩ +ₚ a ⟨ 1 ⟩ *ₚ b ⟨ 0 ⟩)
    ∷ (a ⟨ 0 ⟩ *ₚ b ⟨ 2 ⟩ +ₚ a ⟨ 1 ⟩ *ₚ b ⟨ 1 ⟩ +ₚ a ⟨ 2 ⟩ *ₚ b ⟨ 0 ⟩)
    ∷ (a ⟨ 0 ⟩ *ₚ b ⟨ 3 ⟩ +ₚ a ⟨ 1 ⟩ *ₚ b ⟨ 2 ⟩ +ₚ (a ⟨ 2 ⟩ *ₚ b ⟨ 1 ⟩ +ₚ a ⟨ 3 ⟩ *ₚ b ⟨ 0 ⟩))
    ∷ (a ⟨ 0 ⟩ *ₚ b ⟨ 4 ⟩ +ₚ a ⟨ 1 ⟩ *ₚ b ⟨ 3 ⟩ +ₚ (a ⟨ 2 ⟩ *ₚ b ⟨ 2 ⟩ +ₚ a ⟨ 3 ⟩ *ₚ b ⟨ 1 ⟩) +ₚ a ⟨ 4 ⟩ *ₚ b ⟨ 0 ⟩)
    ∷ (a ⟨ 1 ⟩ *ₚ b ⟨ 4 ⟩ +ₚ a ⟨ 2 ⟩ *ₚ b ⟨ 3 ⟩ +ₚ (a ⟨ 3 ⟩ *ₚ b ⟨ 2 ⟩ +ₚ a ⟨ 4 ⟩ *ₚ b ⟨ 1 ⟩))
    ∷ (a ⟨ 2 ⟩ *ₚ b ⟨ 4 ⟩ +ₚ a ⟨ 3 ⟩ *ₚ b ⟨ 3 ⟩ +ₚ a ⟨ 4 ⟩ *ₚ b ⟨ 2 ⟩)
    ∷ (a ⟨ 3 ⟩ *ₚ b ⟨ 4 ⟩ +ₚ a ⟨ 4 ⟩ *ₚ b ⟨ 3 ⟩)
    ∷ (a ⟨ 4 ⟩ *ₚ b ⟨ 4 ⟩)
    ∷ []

-- coefficients 5 to 8 folded back by the house rule
unfoldable pub folded : List ℕ → List ℕ
folded d =
    (d ⟨ 0 ⟩ +ₚ d ⟨ 5 ⟩ -ₚ d ⟨ 8 ⟩)
    ∷ (d ⟨ 1 ⟩ +ₚ d ⟨ 6 ⟩)
    ∷ (d ⟨ 2 ⟩ +ₚ d ⟨ 7 ⟩ +ₚ d ⟨ 8 ⟩ -ₚ d ⟨ 5 ⟩)
    ∷ (d ⟨ 3 ⟩ +ₚ d ⟨ 8 ⟩ -ₚ d ⟨ 6 ⟩)
    ∷ (d ⟨ 4 ⟩ -ₚ d ⟨ 7 ⟩)
    ∷ []

unfoldable pub ◌*ₑ◌ : List ℕ → List ℕ → List ℕ
a *ₑ b = folded (nine a b)

-- a·b + (1 - a)(1 - b)
unfoldable pub peqₑ : List ℕ → List ℕ → List ℕ
peqₑ a b = a *ₑ b +ₑ (element 1 -ₑ a) *ₑ (element 1 -ₑ b)
