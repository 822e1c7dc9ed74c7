-- Field by field: a reading that goes as far as it can stops at the place, and one field is read where another ends.
-- Assumes nothing.
use Prim.Native.Nat.{ℕ, suc, ◌+◌, ◌-◌, ◌≤◌, ◌<◌}
use mathlib.Core.Bool.{Bool, true, false}
use mathlib.Core.List.{List, [], ◌∷◌}
use mathlib.Core.Path.{◌≡◌, refl, ap, subst}
use native.Mathlib.Omega.{arith}
use native.Mathlib.Numerals.{add-one}
use lib.ListN.{length, get_or, drop, drop_of_length-le}
use lib.Seq.{drop-cons}
use borrow.Author.Tests.{eq-eqb, ne_eqb}
use lib.Dec.{eqb}
use Rattle.text_patterns.specs.Place.{Place}
use Rattle.text_patterns.specs.Reader.{count}
use Rattle.text_patterns.specs.Pattern.{Pattern, done, node, more, step, Spells, Live, Spelling, lit, seq, Parsed, got, left, parse, unread, onto}
use Rattle.word.proofs.Tests.{cases}
use Rattle.text_patterns.proofs.Patterns.{Valid, spells_kind, pattern_place}

module _ {A : Type 0} where
  -- the bytes that are followed and those that are left are the text
  count_parse : (f : Pattern A) (t : List ℕ) → count step f t + length (unread (parse f t)) ≡ length t
  unfolding count parse
  count_parse (done a) [] = omega arith
  count_parse (done a) (b ∷ t) = omega arith
  count_parse (node ok f) [] = omega arith
  count_parse (node ok f) (b ∷ t) =
      cases (ok b) (λ e. rw e (omega (arith, count_parse (f b) t))) (λ e. rw e (omega arith))
  count_parse (more a ok f) [] = omega arith
  count_parse (more a ok f) (b ∷ t) =
      cases (ok b) (λ e. rw e (omega (arith, count_parse (f b) t))) (λ e. rw e (omega arith))

  pub count_most : (f : Pattern A) (t : List ℕ) → count step f t ≤ length t
  count_most f t = omega (arith, count_parse f t)

  -- the bytes that are left are the text's last
  pub parse_rest : (f : Pattern A) (t : List ℕ) → unread (parse f t) ≡ drop (count step f t) t
  unfolding count parse
  parse_rest (done a) [] = refl
  parse_rest (done a) (b ∷ t) = refl
  parse_rest (node ok f) [] = refl
  parse_rest (node ok f) (b ∷ t) = cases (ok b) (λ e. rw e (parse_rest (f b) t)) (λ e. rw e)
  parse_rest (more a ok f) [] = refl
  parse_rest (more a ok f) (b ∷ t) = cases (ok b) (λ e. rw e (parse_rest (f b) t)) (λ e. rw e)

  pub spells_parse : (f : Pattern A) (t : List ℕ) (a : A) → Spells f t a → parse f t ≡ got a []
  unfolding parse
  spells_parse (done x) [] a h = ap (λ (y : A). got y []) h
  spells_parse (done x) (b ∷ t) a h = absurd h
  spells_parse (node ok f) [] a h = absurd h
  spells_parse (node ok f) (b ∷ t) a h = rw h.0 (spells_parse (f b) t a h.1)
  spells_parse (more x ok f) [] a h = ap (λ (y : A). got y []) h
  spells_parse (more x ok f) (b ∷ t) a h = rw h.0 (spells_parse (f b) t a h.1)

  pub parse_spells : (f : Pattern A) (t : List ℕ) (a : A) → parse f t ≡ got a [] → Spells f t a
  unfolding parse
  parse_spells (done x) [] a h = cc
  parse_spells (done x) (b ∷ t) a h = let z : ◌≡◌ {A = ℕ} 0 1 = cc in absurd (omega arith)
  parse_spells (node ok f) [] a h = let z : ◌≡◌ {A = ℕ} 0 1 = cc in absurd (omega arith)
  parse_spells (node ok f) (b ∷ t) a h =
      cases (ok b) (λ e. (e, parse_spells (f b) t a (rw e at h)))
      (λ e. let y = rw e at h in let z : ◌≡◌ {A = ℕ} 0 1 = cc in absurd (omega arith))
  parse_spells (more x ok f) [] a h = cc
  parse_spells (more x ok f) (b ∷ t) a h =
      cases (ok b) (λ e. (e, parse_spells (f b) t a (rw e at h)))
      (λ e. let y = rw e at h in let z : ◌≡◌ {A = ℕ} 0 1 = cc in absurd (omega arith))

  -- a value that is read is one of the kind, whatever follows
  pub parse_kind : (o : Bool) (P : A → Type 0) (f : Pattern A) (t : List ℕ) (a : A) (r : List ℕ) → Live o P f → parse f t ≡ got a r → P a
  unfolding parse
  parse_kind o P (done x) t a r l e = let z : x ≡ a = cc in subst P z l
  parse_kind o P (node ok f) [] a r l e = let z : ◌≡◌ {A = ℕ} 0 1 = cc in absurd (omega arith)
  parse_kind o P (node ok f) (b ∷ t) a r l e =
      cases (ok b) (λ h. parse_kind o P (f b) t a r (l.1 b h) (rw h at e))
      (λ h. let y = rw h at e in let z : ◌≡◌ {A = ℕ} 0 1 = cc in absurd (omega arith))
  parse_kind o P (more x ok f) [] a r l e = let z : x ≡ a = cc in subst P z l.1
  parse_kind o P (more x ok f) (b ∷ t) a r l e =
      cases (ok b) (λ h. parse_kind o P (f b) t a r (l.2 b h) (rw h at e))
      (λ h. let y = rw h at e in let z : x ≡ a = cc in subst P z l.1)

-- what a reading that goes as far as it can owes
abbrev pub ParseOwed : {A : Type 0} → (A → Type 0) → (A → List ℕ) → List ℕ → Parsed A → Type 0
ParseOwed P write t (got a []) = P a × (write a ≡ t)
ParseOwed P write t (got a (b ∷ r)) = (Valid P write t → ⊥) × Place (Valid P write) t (length t - length (b ∷ r))
ParseOwed P write t (left r) = (Valid P write t → ⊥) × Place (Valid P write) t (length t - length r)

module _ {A : Type 0} {o : Bool} {f : Pattern A} {P : A → Type 0} {write : A → List ℕ} (w : Spelling o f P write) where
  all_read : (t : List ℕ) → Valid P write t → (a : A) × (parse f t ≡ got a [])
  all_read t v = (v.0, spells_parse f t v.0 (subst (λ (s : List ℕ). Spells f s v.0) v.2 (w.complete v.0 v.1)))

  place_parse : (t : List ℕ) → Place (Valid P write) t (length t - length (unread (parse f t)))
  place_parse t = subst (Place (Valid P write) t) (let e = count_parse f t in omega arith) (pattern_place w t)

  parse_by : (t : List ℕ) (r : Parsed A) → parse f t ≡ r → ParseOwed P write t r
  parse_by t (got a []) e = let h = parse_spells f t a e in (spells_kind o P t f a w.live h, w.sound t a h)
  parse_by t (got a (b ∷ r)) e = (
    λ v. let x = (all_read t v).1 in
        let z : ◌≡◌ {A = ℕ} 0 1 = cc in
        omega arith,
    rw e at (place_parse t),
  )
  parse_by t (left r) e = (
    λ v. let x = (all_read t v).1 in
        let z : ◌≡◌ {A = ℕ} 0 1 = cc in
        omega arith,
    rw e at (place_parse t),
  )

  pub parse_owed : (t : List ℕ) → ParseOwed P write t (parse f t)
  parse_owed t = parse_by t (parse f t) refl

-- field by field
pub parse_seq : {A B : Type 0} (P : A → Type 0) (k : A → Pattern B) (f : Pattern A) (t : List ℕ) → Live false P f
    → parse (seq f k) t ≡ onto (λ a. parse (k a)) (parse f t)
unfolding parse seq
parse_seq P k (done a) t l = refl
parse_seq P k (node ok f) [] l = refl
parse_seq P k (node ok f) (b ∷ t) l =
    cases (ok b) (λ e. rw e (parse_seq P k (f b) t (l.1 b e))) (λ e. rw e)
parse_seq P k (more a ok f) t l = absurd l.0

-- byte by byte, at a place of a text
module _ {A : Type 0} (ok : ℕ → Bool) (f : ℕ → Pattern A) (text : List ℕ) (i : ℕ) where
  pub parse_on : i < length text → ok (get_or text i 0) ≡ true → parse (node ok f) (drop i text) ≡ parse (f (get_or text i 0)) (drop (i + 1) text)
  unfolding parse
  parse_on h e = rw (drop-cons text i 0 h, e, add-one i)

  pub parse_stop : i < length text → ok (get_or text i 0) ≡ false → parse (node ok f) (drop i text) ≡ left (drop i text)
  unfolding parse
  parse_stop h e = rw (drop-cons text i 0 h, e)

  pub parse_end : length text ≤ i → parse (node ok f) (drop i text) ≡ left (drop i text)
  unfolding parse
  parse_end h = rw (drop_of_length-le text h)

-- fixed bytes first, and then the pattern behind them
pub parse_lit_then : {A B : Type 0} (x : A) (f : Pattern B) (w t : List ℕ) → parse (lit w f) t ≡ onto (λ a. parse f) (parse (lit w (done x)) t)
unfolding parse lit
parse_lit_then x f [] t = refl
parse_lit_then x f (c ∷ w) [] = refl
parse_lit_then x f (c ∷ w) (b ∷ t) = cases (eqb c b) (λ e. rw e (parse_lit_then x f w t)) (λ e. rw e)

-- fixed bytes, byte by byte: j of them are read, up to i
module _ {A : Type 0} (f : Pattern A) (w text : List ℕ) (j i : ℕ) where
  pub lit_on : j < length w → i < length text → get_or w j 0 ≡ get_or text i 0
      → parse (lit (drop j w) f) (drop i text) ≡ parse (lit (drop (j + 1) w) f) (drop (i + 1) text)
  unfolding lit
  lit_on g h e =
      rw (drop-cons w j 0 g, add-one j) (parse_on (eqb (get_or w j 0)) (λ b. lit (drop (suc j) w) f) text i h (eq-eqb (get_or w j 0) (get_or text i 0) e))

  pub lit_stop : j < length w → i < length text → (get_or w j 0 ≡ get_or text i 0 → ⊥) → parse (lit (drop j w) f) (drop i text) ≡ left (drop i text)
  unfolding lit
  lit_stop g h e =
      rw (drop-cons w j 0 g) (parse_stop (eqb (get_or w j 0)) (λ b. lit (drop (suc j) w) f) text i h (ne_eqb (get_or w j 0) (get_or text i 0) e))

  pub lit_end : j < length w → length text ≤ i → parse (lit (drop j w) f) (drop i text) ≡ left (drop i text)
  unfolding lit
  lit_end g h = rw (drop-cons w j 0 g) (parse_end (eqb (get_or w j 0)) (λ b. lit (drop (suc j) w) f) text i h)

  pub lit_done : length w ≤ j → parse (lit (drop j w) f) (drop i text) ≡ parse f (drop i text)
  unfolding lit
  lit_done g = rw (drop_of_length-le w g)
