-- A reader that is exact and live counts a text's place.
-- Assumes nothing.
use Prim.Native.Nat.{ℕ, zero, suc, ◌≤◌}
use mathlib.Core.Bool.{Bool, true, false, cond}
use mathlib.Core.List.{List, [], ◌∷◌, ◌++◌}
use mathlib.Core.Logic.{◌↔◌}
use mathlib.Core.Option.{Option, none, some}
use mathlib.Core.Path.{◌≡◌, refl, ◌∙◌, ap, subst, sym}
use native.Mathlib.Omega.{arith}
use lib.Dec.{eqb}
use lib.ListN.{length, take}
use lib.Seq.{take-nil}
use borrow.Author.Tests.{eq-eqb, eqb-true}
use Rattle.word.proofs.Tests.{cases}
use Rattle.text_patterns.specs.Place.{shared, Place}
use Rattle.text_patterns.specs.Reader.{onward, follow, count, Taken, Reader}

pub shared_nil : (w : List ℕ) → shared w [] ≡ 0
unfolding shared
shared_nil [] = refl
shared_nil (x ∷ w) = refl

pub shared_same : (b : ℕ) (w t : List ℕ) → shared (b ∷ w) (b ∷ t) ≡ suc (shared w t)
unfolding shared
shared_same b w t = rw (eq-eqb b b refl)

-- what is shared is no longer than either text, and stands in its front
pub shared_most : (xs ys : List ℕ) → shared xs ys ≤ length xs
unfolding shared
shared_most [] ys = omega arith
shared_most (x ∷ xs) [] = omega arith
shared_most (x ∷ xs) (y ∷ ys) = cases (eqb x y) (λ e. rw e (omega (arith, shared_most xs ys))) (λ e. rw e (omega arith))

pub shared_cut : (xs ys : List ℕ) (k : ℕ) → length xs ≤ k → shared xs (take k ys) ≡ shared xs ys
unfolding shared
shared_cut [] ys k h = refl
shared_cut (x ∷ xs) [] k h = rw (take-nil k)
shared_cut (x ∷ xs) (y ∷ ys) zero h = absurd (omega arith)
shared_cut (x ∷ xs) (y ∷ ys) (suc k) h = ap (λ (n : ℕ). cond (eqb x y) (suc n) 0) (shared_cut xs ys k (omega arith))

-- a text has one place
pub unique : {Valid : List ℕ → Type 0} {t : List ℕ} (j k : ℕ) → Place Valid t j → Place Valid t k → j ≡ k
unique j k p q =
    let a = p.attained in
    let b = q.attained in
    omega (arith, q.most a.0 a.1, a.2, p.most b.0 b.1, b.2)

-- and the same one among texts that are valid in another wording
pub same_place : {U W : List ℕ → Type 0} → ((t : List ℕ) → U t ↔ W t) → {t : List ℕ} {k : ℕ} → Place U t k → Place W t k
same_place f p =
    let a = p.attained in
    record { attained = (a.0, (f a.0).0 a.1, a.2); most = λ w h. p.most w ((f w).1 h) }

module _ {S : Type 0} (next : S → ℕ → Option S) where
  follow_on : (b : ℕ) (t : List ℕ) (s q : S) → next s b ≡ some q → follow next s (b ∷ t) ≡ follow next q t
  unfolding follow
  follow_on b t s q e = rw e

  follow_stop : (b : ℕ) (t : List ℕ) (s : S) → next s b ≡ none → follow next s (b ∷ t) ≡ none
  unfolding follow
  follow_stop b t s e = rw e

  pub follow_append : (p t : List ℕ) (s q : S) → follow next s p ≡ some q → follow next s (p ++ t) ≡ follow next q t
  follow_append [] t s q e = let z : s ≡ q = unfold follow in cc in rw z
  follow_append (b ∷ p) t s q e = go (next s b) refl (λ r. follow_append p t r q)
    where
      go : (o : Option S) → next s b ≡ o → ((r : S) → follow next r p ≡ some q → follow next r (p ++ t) ≡ follow next q t)
          → follow next s (b ∷ (p ++ t)) ≡ follow next q t
      go none x f = cc (follow_stop b p s x)
      go (some r) x f = follow_on b (p ++ t) s r x ∙ f r (sym (follow_on b p s r x) ∙ e)

  module _ (ends : S → Bool) where
    taken_on : (b : ℕ) (t : List ℕ) (s q : S) → next s b ≡ some q → Taken next ends q t → Taken next ends s (b ∷ t)
    taken_on b t s q e h = (h.0, follow_on b t s q e ∙ h.1, h.2)

    taken_back : (b : ℕ) (t : List ℕ) (s q : S) → next s b ≡ some q → Taken next ends s (b ∷ t) → Taken next ends q t
    taken_back b t s q e h = (h.0, sym (follow_on b t s q e) ∙ h.1, h.2)

    taken_stop : (b : ℕ) (t : List ℕ) (s : S) → next s b ≡ none → Taken next ends s (b ∷ t) → ⊥
    taken_stop b t s e h =
        let x = follow_stop b t s e in
        let y = h.1 in
        let z : ◌≡◌ {A = ℕ} 0 1 = cc in
        omega arith

    -- no text that is taken shares more than is followed
    most_from : (t : List ℕ) (s : S) (w : List ℕ) → Taken next ends s w → shared w t ≤ count next s t
    unfolding shared count
    most_from [] s [] h = omega arith
    most_from [] s (x ∷ w) h = omega arith
    most_from (b ∷ t) s [] h = omega arith
    most_from (b ∷ t) s (x ∷ w) h = go (eqb x b) refl (next s b) refl (λ q. most_from t q w)
      where
        go : (u : Bool) → eqb x b ≡ u → (o : Option S) → next s b ≡ o → ((q : S) → Taken next ends q w → shared w t ≤ count next q t)
            → cond (eqb x b) (suc (shared w t)) 0 ≤ onward 0 (λ q. suc (count next q t)) (next s b)
        go false e o y f = rw e (omega arith)
        go true e none y f = absurd (taken_stop b w s y (subst (λ (z : ℕ). Taken next ends s (z ∷ w)) (eqb-true x b e) h))
        go true e (some q) y f =
            rw (e, y) (omega (arith, f q (taken_back b w s q y (subst (λ (z : ℕ). Taken next ends s (z ∷ w)) (eqb-true x b e) h))))

    -- where a byte is not followed no text that is taken shares anything
    none_shared : (b : ℕ) (t : List ℕ) (s : S) (w : List ℕ) → next s b ≡ none → Taken next ends s w → shared w (b ∷ t) ≡ 0
    unfolding count
    none_shared b t s w e h = let m = most_from (b ∷ t) s w h in omega (arith, rw e at m)

    -- the states of which it is known that they are live
    module _ (Known : S → Type 0) (keeps : (s : S) (b : ℕ) (q : S) → Known s → next s b ≡ some q → Known q)
        (lives : (s : S) → Known s → (w : List ℕ) × Taken next ends s w) where
      attained_from : (t : List ℕ) (s : S) → Known s → (w : List ℕ) × Taken next ends s w × (shared w t ≡ count next s t)
      unfolding count
      attained_from [] s h = let l = lives s h in (l.0, l.1, shared_nil l.0)
      attained_from (b ∷ t) s h = go (next s b) refl (λ q. attained_from t q)
        where
          go : (o : Option S) → next s b ≡ o
              → ((q : S) → Known q → (w : List ℕ) × Taken next ends q w × (shared w t ≡ count next q t))
              → (w : List ℕ) × Taken next ends s w × (shared w (b ∷ t) ≡ onward 0 (λ q. suc (count next q t)) (next s b))
          go none e f = let l = lives s h in (l.0, l.1, rw e (none_shared b t s l.0 e l.1))
          go (some q) e f =
              let a = f q (keeps s b q h e) in
              (b ∷ a.0, taken_on b a.0 s q e a.1, rw e (shared_same b a.0 t ∙ ap suc a.2))

-- the law: what a reader that is exact and live follows is the place
module _ {S : Type 0} {Valid : List ℕ → Type 0} {start : S} {next : S → ℕ → Option S} {ends : S → Bool} (r : Reader Valid start next ends) where
  abbrev Reached : S → Type 0
  Reached q = (p : List ℕ) × (follow next start p ≡ some q)

  further : (s : S) (b : ℕ) (q : S) → Reached s → next s b ≡ some q → Reached q
  unfolding follow
  further s b q h e = (h.0 ++ (b ∷ []), follow_append next h.0 (b ∷ []) start s h.1 ∙ follow_on next b [] s q e)

  lives : (s : S) → Reached s → (w : List ℕ) × Taken next ends s w
  lives s h =
      let l = r.live h.0 s h.1 in
      let x = (r.exact (h.0 ++ l.0)).0 l.1 in
      (l.0, (x.0, sym (follow_append next h.0 l.0 start s h.1) ∙ x.1, x.2))

  -- the bytes that are followed are the text's place
  pub place : (t : List ℕ) → Place Valid t (count next start t)
  unfolding follow
  place t =
      let a = attained_from next ends Reached further lives t start ([], refl) in
      record {
        attained = (a.0, (r.exact a.0).1 a.1, a.2);
        most = λ w h. most_from next ends t start w ((r.exact w).0 h);
      }

-- where something is known of every state that is reached, and each state of which it is known is live
module _ {S : Type 0} {next : S → ℕ → Option S} {ends : S → Bool} (Known : S → Type 0)
    (keeps : (s : S) (b : ℕ) (q : S) → Known s → next s b ≡ some q → Known q)
    (lives : (s : S) → Known s → (w : List ℕ) × Taken next ends s w) where
  known : (p : List ℕ) (s q : S) → Known s → follow next s p ≡ some q → Known q
  known [] s q h e = let z : s ≡ q = unfold follow in cc in subst Known z h
  known (b ∷ p) s q h e = go (next s b) refl (λ r. known p r q)
    where
      go : (o : Option S) → next s b ≡ o → ((r : S) → Known r → follow next r p ≡ some q → Known q) → Known q
      go none x f = let y = follow_stop next b p s x in let z : ◌≡◌ {A = ℕ} 0 1 = cc in absurd (omega arith)
      go (some r) x f = f r (keeps s b r h x) (sym (follow_on next b p s r x) ∙ e)

  pub reader_by : {Valid : List ℕ → Type 0} {start : S} → Known start → ((t : List ℕ) → Valid t ↔ Taken next ends start t) → Reader Valid start next ends
  reader_by {Valid} {start} begins exact = record {
    exact = exact;
    live = λ p q e. let l = lives q (known p start q begins e) in
        (l.0, (exact (p ++ l.0)).1 (l.1.0, follow_append next p l.0 start q e ∙ l.1.1, l.1.2));
  }
