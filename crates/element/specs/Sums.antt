-- Inner: an element times X, and five sums of products on their way to the words of a product.
use Rattle.std.specs.Prelude.{ℕ, ◌*◌, ◌%◌, ◌≤◌, List, [], ◌∷◌}
use Rattle.word.specs.Word.{p, ◌-ₚ◌}
use Rattle.word.specs.Element.{◌⟨◌⟩}

-- the top word t comes back as t - t·X^2
unfoldable pub times_x : List ℕ → List ℕ
times_x b = b ⟨ 4 ⟩ ∷ b ⟨ 0 ⟩ ∷ (b ⟨ 1 ⟩ -ₚ b ⟨ 4 ⟩) ∷ b ⟨ 2 ⟩ ∷ b ⟨ 3 ⟩ ∷ []

-- what the sums come to
abbrev pub reduced_of : List ℕ → List ℕ
reduced_of s = s ⟨ 0 ⟩ % p ∷ s ⟨ 1 ⟩ % p ∷ s ⟨ 2 ⟩ % p ∷ s ⟨ 3 ⟩ % p ∷ s ⟨ 4 ⟩ % p ∷ []

-- no sum is above that of k products of words, each at most (p - 1)^2
abbrev pub Products : ℕ → List ℕ → Type 0
Products k s =
    (s ⟨ 0 ⟩ ≤ 4539909899366170624 * k)
    × (s ⟨ 1 ⟩ ≤ 4539909899366170624 * k)
    × (s ⟨ 2 ⟩ ≤ 4539909899366170624 * k)
    × (s ⟨ 3 ⟩ ≤ 4539909899366170624 * k)
    × (s ⟨ 4 ⟩ ≤ 4539909899366170624 * k)
