-- Document 01, "What the contracts owe": a promise that is an equation admits one answer. Stated once, for every
-- function: it holds of the answer and of each lent buffer, as each has an equation of its own.
use Rattle.std.specs.Prelude.{◌≡◌}
use Rattle.std.proofs.Common.{sym, ◌∙◌}

-- no two answers keep the promise
abbrev pub Determined {ℓ} : {A : Type ℓ} → (A → Type ℓ) → Type ℓ
Determined {A} Promise = (r s : A) → Promise r → Promise s → r ≡ s

-- an answer that a definition gives, an integer, a struct, an enum or a list of bytes
pub equation {ℓ} : {A : Type ℓ} (e : A) → Determined (λ (r : A). r ≡ e)
equation e r s p q = p ∙ sym q

-- an answer and a lent buffer at return, each given by a definition
pub equations {ℓ} : {A B : Type ℓ} (e : A) (f : B) → Determined (λ (r : A × B). (r.0 ≡ e) × (r.1 ≡ f))
equations e f r s p q = λ i. ((p.0 ∙ sym q.0) i, (p.1 ∙ sym q.1) i)

-- an answer and two lent buffers at return
pub equations-of-three {ℓ} : {A B C : Type ℓ} (e : A) (f : B) (g : C) → Determined (λ (r : A × B × C). (r.0 ≡ e) × (r.1 ≡ f) × (r.2 ≡ g))
equations-of-three e f g r s p q = λ i. ((p.0 ∙ sym q.0) i, (p.1 ∙ sym q.1) i, (p.2 ∙ sym q.2) i)
