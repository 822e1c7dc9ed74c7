-- A pattern that is written is read: the reader whose states are patterns is exact and live.
-- Assumes nothing.
use Prim.Native.Nat.{ℕ}
use mathlib.Core.Bool.{Bool, true, false}
use mathlib.Core.List.{List, [], ◌∷◌}
use mathlib.Core.Logic.{◌↔◌}
use mathlib.Core.Option.{some}
use mathlib.Core.Path.{◌≡◌, refl, ◌∙◌, subst, sym}
use native.Mathlib.Omega.{arith}
use Rattle.text_patterns.specs.Place.{Place}
use Rattle.text_patterns.specs.Reader.{follow, count, Taken, Reader}
use Rattle.text_patterns.specs.Pattern.{Pattern, done, node, more, step, ended, Spells, Live, Spelling}
use Rattle.text_patterns.proofs.Law.{reader_by, place}

-- the value where a text may end
abbrev pub Ends : {A : Type 0} → Pattern A → A → Type 0
Ends (done x) a = x ≡ a
Ends (node ok f) a = ⊥
Ends (more x ok f) a = x ≡ a

module _ {A : Type 0} where
  ends_spells : (f : Pattern A) (a : A) → Ends f a → Spells f [] a
  ends_spells (done x) a e = e
  ends_spells (node ok f) a e = e
  ends_spells (more x ok f) a e = e

  ends_ended : (f : Pattern A) (a : A) → Ends f a → ended f ≡ true
  ends_ended (done x) a e = refl
  ends_ended (node ok f) a e = absurd e
  ends_ended (more x ok f) a e = refl

  ended_ends : (f : Pattern A) → ended f ≡ true → (a : A) × Ends f a
  ended_ends (done x) e = (x, refl)
  ended_ends (node ok f) e = let z : ◌≡◌ {A = ℕ} 0 1 = cc in absurd (omega arith)
  ended_ends (more x ok f) e = (x, refl)

  -- a text of the pattern is followed to a pattern that may end with the value, and no other is
  pub spells_follow : (t : List ℕ) (f : Pattern A) (a : A) → Spells f t a → (q : Pattern A) × (follow step f t ≡ some q) × Ends q a
  unfolding follow
  spells_follow [] (done x) a h = (done x, refl, h)
  spells_follow [] (node ok f) a h = absurd h
  spells_follow [] (more x ok f) a h = (more x ok f, refl, h)
  spells_follow (b ∷ t) (done x) a h = absurd h
  spells_follow (b ∷ t) (node ok f) a h = let r = spells_follow t (f b) a h.1 in (r.0, rw h.0 r.1, r.2)
  spells_follow (b ∷ t) (more x ok f) a h = let r = spells_follow t (f b) a h.1 in (r.0, rw h.0 r.1, r.2)

  pub follow_spells : (t : List ℕ) (f q : Pattern A) (a : A) → follow step f t ≡ some q → Ends q a → Spells f t a
  unfolding follow
  follow_spells [] f q a e h = let z : f ≡ q = cc in subst (λ (g : Pattern A). Spells g [] a) (sym z) (ends_spells q a h)
  follow_spells (b ∷ t) (done x) q a e h = let z : ◌≡◌ {A = ℕ} 0 1 = cc in absurd (omega arith)
  follow_spells (b ∷ t) (node ok f) q a e h = go (ok b) refl (follow_spells t (f b) q a)
    where
      go : (u : Bool) → ok b ≡ u → (follow step (f b) t ≡ some q → Ends q a → Spells (f b) t a) → (ok b ≡ true) × Spells (f b) t a
      go true x r = (x, r (rw x at e) h)
      go false x r = let y = rw x at e in let z : ◌≡◌ {A = ℕ} 0 1 = cc in absurd (omega arith)
  follow_spells (b ∷ t) (more y ok f) q a e h = go (ok b) refl (follow_spells t (f b) q a)
    where
      go : (u : Bool) → ok b ≡ u → (follow step (f b) t ≡ some q → Ends q a → Spells (f b) t a) → (ok b ≡ true) × Spells (f b) t a
      go true x r = (x, r (rw x at e) h)
      go false x r = let y = rw x at e in let z : ◌≡◌ {A = ℕ} 0 1 = cc in absurd (omega arith)

  -- a text has one value
  pub spells_one : (t : List ℕ) (f : Pattern A) (a c : A) → Spells f t a → Spells f t c → a ≡ c
  spells_one [] (done x) a c h k = sym h ∙ k
  spells_one [] (node ok f) a c h k = absurd h
  spells_one [] (more x ok f) a c h k = sym h ∙ k
  spells_one (b ∷ t) (done x) a c h k = absurd h
  spells_one (b ∷ t) (node ok f) a c h k = spells_one t (f b) a c h.1 k.1
  spells_one (b ∷ t) (more x ok f) a c h k = spells_one t (f b) a c h.1 k.1

  module _ (o : Bool) (P : A → Type 0) where
    -- a value that is read is one of the kind
    pub spells_kind : (t : List ℕ) (f : Pattern A) (a : A) → Live o P f → Spells f t a → P a
    spells_kind [] (done x) a l h = subst P h l
    spells_kind [] (node ok f) a l h = absurd h
    spells_kind [] (more x ok f) a l h = subst P h l.1
    spells_kind (b ∷ t) (done x) a l h = absurd h
    spells_kind (b ∷ t) (node ok f) a l h = spells_kind t (f b) a (l.1 b h.0) h.1
    spells_kind (b ∷ t) (more x ok f) a l h = spells_kind t (f b) a (l.2 b h.0) h.1

    -- a live pattern has a text
    some_text : (f : Pattern A) → Live o P f → (w : List ℕ) × (a : A) × Spells f w a
    some_text (done x) l = ([], x, refl)
    some_text (node ok f) l =
        let b = l.0.0 in
        let r = some_text (f b) (l.1 b l.0.1) in
        (b ∷ r.0, r.1, (l.0.1, r.2))
    some_text (more x ok f) l = ([], x, refl)

    live_step : (f : Pattern A) (b : ℕ) (q : Pattern A) → Live o P f → step f b ≡ some q → Live o P q
    live_step (done x) b q l e = let z : ◌≡◌ {A = ℕ} 0 1 = cc in absurd (omega arith)
    live_step (node ok f) b q l e = go (ok b) refl
      where
        go : (u : Bool) → ok b ≡ u → Live o P q
        go true x = let y = rw x at e in let z : f b ≡ q = cc in subst (Live o P) z (l.1 b x)
        go false x = let y = rw x at e in let z : ◌≡◌ {A = ℕ} 0 1 = cc in absurd (omega arith)
    live_step (more c ok f) b q l e = go (ok b) refl
      where
        go : (u : Bool) → ok b ≡ u → Live o P q
        go true x = let y = rw x at e in let z : f b ≡ q = cc in subst (Live o P) z (l.2 b x)
        go false x = let y = rw x at e in let z : ◌≡◌ {A = ℕ} 0 1 = cc in absurd (omega arith)

  -- the texts of a kind of values
  abbrev pub Valid : (A → Type 0) → (A → List ℕ) → List ℕ → Type 0
  Valid P write t = (a : A) × P a × (write a ≡ t)

  module _ {o : Bool} {f : Pattern A} {P : A → Type 0} {write : A → List ℕ} (w : Spelling o f P write) where
    exact : (t : List ℕ) → Valid P write t ↔ Taken step ended f t
    exact t = (
      λ v. let h : Spells f t v.0 = subst (λ (s : List ℕ). Spells f s v.0) v.2 (w.complete v.0 v.1) in
          let r = spells_follow t f v.0 h in
          (r.0, r.1, ends_ended r.0 v.0 r.2),
      λ k. let e = ended_ends k.0 k.2 in
          let h = follow_spells t f k.0 e.0 k.1 e.1 in
          (e.0, spells_kind o P t f e.0 w.live h, w.sound t e.0 h),
    )

    pub reader : Reader (Valid P write) f step ended
    reader =
        reader_by (Live o P) (live_step o P)
        (λ s l. let x = some_text o P s l in
        let r = spells_follow x.0 s x.1 x.2 in
        (x.0, (r.0, r.1, ends_ended r.0 x.1 r.2)))
        w.live exact

    pub pattern_place : (t : List ℕ) → Place (Valid P write) t (count step f t)
    pattern_place = place reader
