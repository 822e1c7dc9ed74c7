-- Inner: readers that go byte by byte, and what is asked of one so that the bytes it follows are a text's place.
use Rattle.std.specs.Prelude.{ℕ, suc, Bool, true, List, [], ◌∷◌, ◌++◌, ◌↔◌, ◌≡◌}
use Rattle.std.proofs.Math.Option.{Option, none, some}

abbrev pub onward {ℓ} : {S : Type 0} {B : Type ℓ} → B → (S → B) → Option S → B
onward d f none = d
onward d f (some q) = f q

module _ {S : Type 0} (next : S → ℕ → Option S) where
  -- the state that the whole of a text leads to, if each byte is followed
  unfoldable pub follow : S → List ℕ → Option S
  follow s [] = some s
  follow s (b ∷ t) = onward none (λ q. follow q t) (next s b)

  -- the bytes of a text that are followed
  unfoldable pub count : S → List ℕ → ℕ
  count s [] = 0
  count s (b ∷ t) = onward 0 (λ q. suc (count q t)) (next s b)

  -- a text is followed from a state to one that ends
  abbrev pub Taken : (S → Bool) → S → List ℕ → Type 0
  Taken ends s t = (q : S) × (follow s t ≡ some q) × (ends q ≡ true)

-- what is asked of a reader of valid texts: it is exact, and from every state that it reaches some valid text goes on
pub record Reader {S : Type 0} (Valid : List ℕ → Type 0) (start : S) (next : S → ℕ → Option S) (ends : S → Bool) : Type 0 where
  pub exact : (t : List ℕ) → Valid t ↔ Taken next ends start t
  pub live : (p : List ℕ) (q : S) → follow next start p ≡ some q → (w : List ℕ) × Valid (p ++ w)
