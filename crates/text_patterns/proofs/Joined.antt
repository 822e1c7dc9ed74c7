-- Patterns one after the other, and behind fixed bytes: what is spelled by the parts is spelled by the whole.
-- Assumes nothing.
use Prim.Native.Nat.{ℕ}
use mathlib.Core.Bool.{Bool, false}
use mathlib.Core.List.{List, [], ◌∷◌, ◌++◌}
use mathlib.Core.Logic.{◌↔◌}
use mathlib.Core.Path.{◌≡◌, refl, ◌∙◌, ap, ap₂, subst, sym}
use borrow.Author.Tests.{eq-eqb, eqb-true}
use Rattle.text_patterns.specs.Pattern.{Pattern, done, node, more, Spells, Live, Spelling, lit, seq}
use Rattle.text_patterns.proofs.Patterns.{spells_kind}

-- a kind in other words
pub live_as : {A : Type 0} (o : Bool) (P Q : A → Type 0) (f : Pattern A) → ((a : A) → P a → Q a) → Live o P f → Live o Q f
live_as o P Q (done x) h l = h x l
live_as o P Q (node ok f) h l = (l.0, λ b e. live_as o P Q (f b) h (l.1 b e))
live_as o P Q (more x ok f) h l = (l.0, h x l.1, λ b e. live_as o P Q (f b) h (l.2 b e))

-- what is written, in other words
pub spelling_as : {A : Type 0} {o : Bool} {f : Pattern A} {P Q : A → Type 0} {p q : A → List ℕ}
    → ((a : A) → P a ↔ Q a) → ((a : A) → P a → p a ≡ q a) → Spelling o f P p → Spelling o f Q q
spelling_as {o = o} {f} {P} {Q} {p} {q} k e w = record {
  live = live_as o P Q f (λ a. (k a).0) w.live;
  sound = λ t a h. sym (e a (spells_kind o P t f a w.live h)) ∙ w.sound t a h;
  complete = λ a h. subst (λ (t : List ℕ). Spells f t a) (e a ((k a).1 h)) (w.complete a ((k a).1 h));
}

-- no byte: the value is known
pub spelling_done : {A : Type 0} (x : A) → Spelling false (done x) (λ a. x ≡ a) (λ a. [])
spelling_done {A} x = record { live = refl; sound = sound; complete = λ a h. h }
  where
    sound : (t : List ℕ) (a : A) → Spells (done x) t a → [] ≡ t
    sound [] a h = refl
    sound (b ∷ t) a h = absurd h

-- a pattern, and one that may depend on its value
module _ {A B : Type 0} (k : A → Pattern B) where
  live_seq : (o : Bool) (P : A → Type 0) (Q : B → Type 0) (f : Pattern A) → Live false P f → ((a : A) → P a → Live o Q (k a)) → Live o Q (seq f k)
  unfolding seq
  live_seq o P Q (done x) l h = h x l
  live_seq o P Q (node ok f) l h = (l.0, λ b e. live_seq o P Q (f b) (l.1 b e) h)
  live_seq o P Q (more x ok f) l h = absurd l.0

  spells_seq : (P : A → Type 0) (f : Pattern A) (u v : List ℕ) (a : A) (c : B) → Live false P f → Spells f u a → Spells (k a) v c
      → Spells (seq f k) (u ++ v) c
  unfolding seq
  spells_seq P (done x) [] v a c l h j = subst (λ (y : A). Spells (k y) v c) (sym h) j
  spells_seq P (done x) (b ∷ u) v a c l h j = absurd h
  spells_seq P (node ok f) [] v a c l h j = absurd h
  spells_seq P (node ok f) (b ∷ u) v a c l h j = (h.0, spells_seq P (f b) u v a c (l.1 b h.0) h.1 j)
  spells_seq P (more x ok f) u v a c l h j = absurd l.0

  seq_spells : (P : A → Type 0) (f : Pattern A) (t : List ℕ) (c : B) → Live false P f → Spells (seq f k) t c
      → (u v : List ℕ) × (a : A) × (u ++ v ≡ t) × Spells f u a × Spells (k a) v c
  unfolding seq
  seq_spells P (done x) t c l h = ([], t, x, refl, refl, h)
  seq_spells P (node ok f) [] c l h = absurd h
  seq_spells P (node ok f) (b ∷ t) c l h =
      let r = seq_spells P (f b) t c (l.1 b h.0) h.1 in
      (b ∷ r.0, r.1, r.2, ap (λ (s : List ℕ). b ∷ s) r.3, (h.0, r.4), r.5)
  seq_spells P (more x ok f) t c l h = absurd l.0

-- a pattern and then another: the values that follow from one of each
pub spelling_then : {A B : Type 0} {o : Bool} {f : Pattern A} {P : A → Type 0} {p : A → List ℕ} (k : A → Pattern B) (Q : A → B → Type 0)
    (q : A → B → List ℕ) (write : B → List ℕ) → ((a : A) (c : B) → P a → Q a c → write c ≡ p a ++ q a c) → Spelling false f P p
    → ((a : A) → P a → Spelling o (k a) (Q a) (q a)) → Spelling o (seq f k) (λ c. (a : A) × P a × Q a c) write
spelling_then {A} {B} {o} {f} {P} {p} k Q q write e w h = record {
  live =
      live_seq k o P (λ c. (a : A) × P a × Q a c) f w.live
      (λ a x. live_as o (Q a) (λ c. (a : A) × P a × Q a c) (k a) (λ c y. (a, x, y)) (h a x).live);
  sound = λ t c r.
      let s = seq_spells k P f t c w.live r in
      let a = s.2 in
      let x = spells_kind false P s.0 f a w.live s.4 in
      let y = spells_kind o (Q a) s.1 (k a) c (h a x).live s.5 in
      e a c x y ∙ ap₂ (λ (m n : List ℕ). m ++ n) (w.sound s.0 a s.4) ((h a x).sound s.1 c s.5) ∙ s.3;
  complete = λ c x.
      let a = x.0 in
      rw (e a c x.1 x.2) (spells_seq k P f (p a) (q a c) a c w.live (w.complete a x.1) ((h a x.1).complete c x.2));
}

-- the same, where the first value is a part of the whole one
pub spelling_seq : {A B : Type 0} {o : Bool} {f : Pattern A} {P : A → Type 0} {p : A → List ℕ} (k : A → Pattern B) (Q : A → B → Type 0) (q : B → List ℕ)
    (part : B → A) → ((a : A) (c : B) → P a → Q a c → part c ≡ a) → Spelling false f P p → ((a : A) → P a → Spelling o (k a) (Q a) q)
    → Spelling o (seq f k) (λ c. P (part c) × Q (part c) c) (λ c. p (part c) ++ q c)
spelling_seq {A} {B} {o} {f} {P} {p} k Q q part tie w h =
    spelling_as
    (λ c. (
      λ x. let e = tie x.0 c x.1 x.2 in
          (subst P (sym e) x.1, subst (λ (z : A). Q z c) (sym e) x.2),
      λ x. (part c, x.0, x.1),
    ))
    (λ c x. refl)
    (spelling_then k Q (λ a. q) (λ c. p (part c) ++ q c) (λ a c x y. ap (λ (z : A). p z ++ q c) (tie a c x y)) w h)

-- fixed bytes
module _ {A : Type 0} (f : Pattern A) where
  live_lit : (o : Bool) (P : A → Type 0) (w : List ℕ) → Live o P f → Live o P (lit w f)
  unfolding lit
  live_lit o P [] l = l
  live_lit o P (x ∷ w) l = ((x, eq-eqb x x refl), λ b e. live_lit o P w l)

  spells_lit : (w v : List ℕ) (a : A) → Spells f v a → Spells (lit w f) (w ++ v) a
  unfolding lit
  spells_lit [] v a h = h
  spells_lit (x ∷ w) v a h = (eq-eqb x x refl, spells_lit w v a h)

  lit_spells : (w t : List ℕ) (a : A) → Spells (lit w f) t a → (v : List ℕ) × (w ++ v ≡ t) × Spells f v a
  unfolding lit
  lit_spells [] t a h = (t, refl, h)
  lit_spells (x ∷ w) [] a h = absurd h
  lit_spells (x ∷ w) (b ∷ t) a h =
      let r = lit_spells w t a h.1 in
      (r.0, ap₂ (λ (y : ℕ) (s : List ℕ). y ∷ s) (eqb-true x b h.0) r.1, r.2)

pub spelling_lit : {A : Type 0} {o : Bool} {f : Pattern A} {P : A → Type 0} {p : A → List ℕ} (w : List ℕ) → Spelling o f P p
    → Spelling o (lit w f) P (λ a. w ++ p a)
spelling_lit {o = o} {f} {P} {p} w h = record {
  live = live_lit f o P w h.live;
  sound = λ t a r. let s = lit_spells f w t a r in ap (λ (v : List ℕ). w ++ v) (h.sound s.0 a s.2) ∙ s.1;
  complete = λ a x. spells_lit f w (p a) a (h.complete a x);
}
