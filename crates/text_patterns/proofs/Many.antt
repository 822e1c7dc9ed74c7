-- Lines, as many as are allowed: what is written of a line is written of them.
-- Assumes nothing.
use Prim.Native.Nat.{ℕ, zero, suc, ◌+◌, ◌≤◌}
use mathlib.Core.Bool.{Bool, true, false}
use mathlib.Core.List.{List, [], ◌∷◌, ◌++◌, append_assoc, append-nil}
use mathlib.Core.Logic.{◌↔◌, ◌⊎◌, inl, inr}
use mathlib.Core.Path.{◌≡◌, refl, ◌∙◌, ap, subst, sym}
use native.Mathlib.Omega.{arith}
use lib.ListN.{length, drop}
use lib.Seq.{drop-append_seam}
use Rattle.text_patterns.specs.Pattern.{Pattern, done, node, more, Spells, Live, Spelling, seq, opt, many, Each, flat}
use Rattle.text_patterns.proofs.Patterns.{spells_kind}
use Rattle.text_patterns.proofs.Joined.{live_as, spelling_as, spelling_done, spelling_then}

-- closed is open too
opened : {A : Type 0} {f : Pattern A} {P : A → Type 0} {p : A → List ℕ} → Spelling false f P p → Spelling true f P p
opened {A} {f} {P} w = record { live = go f w.live; sound = w.sound; complete = w.complete }
  where
    go : (f : Pattern A) → Live false P f → Live true P f
    go (done x) l = l
    go (node ok f) l = (l.0, λ b e. go (f b) (l.1 b e))
    go (more x ok f) l = absurd l.0

-- a value that takes no byte, or a pattern that takes some
spelling_opt : {A : Type 0} {ok : ℕ → Bool} {f : ℕ → Pattern A} {P : A → Type 0} {p : A → List ℕ} (x : A) (write : A → List ℕ)
    → write x ≡ [] → ((a : A) → P a → write a ≡ p a)
    → Spelling true (node ok f) P p → Spelling true (opt x (node ok f)) (λ a. (x ≡ a) ⊎ P a) write
unfolding opt
spelling_opt {A} {ok} {f} {P} {p} x write e i w = record {
  live = (tt, inl refl, λ b h. live_as true P (λ a. (x ≡ a) ⊎ P a) (f b) (λ a. inr) (w.live.1 b h));
  sound = sound;
  complete = complete;
}
  where
    sound : (t : List ℕ) (a : A) → Spells (more x ok f) t a → write a ≡ t
    sound [] a h = ap write (sym h) ∙ e
    sound (b ∷ t) a h = i a (spells_kind true P (b ∷ t) (node ok f) a w.live h) ∙ w.sound (b ∷ t) a h

    taken : (t : List ℕ) (a : A) → Spells (node ok f) t a → Spells (more x ok f) t a
    taken [] a h = absurd h
    taken (b ∷ t) a h = h

    complete : (a : A) → (x ≡ a) ⊎ P a → Spells (more x ok f) (write a) a
    complete a (inl h) = rw (ap write (sym h) ∙ e) h
    complete a (inr h) = rw (i a h) (taken (p a) a (w.complete a h))

-- n more lines of a kind, behind xs
abbrev pub Lines : {A : Type 0} → (A → Type 0) → ℕ → List A → List A → Type 0
Lines {A} P n xs ys = (zs : List A) × (xs ++ zs ≡ ys) × (length zs ≤ n) × Each P zs

module _ {A : Type 0} {ok : ℕ → Bool} {f : ℕ → Pattern A} {P : A → Type 0} {p : A → List ℕ} (w : Spelling false (node ok f) P p) where
  -- what is behind xs
  abbrev later : List A → List A → List ℕ
  later xs ys = flat p (drop (length xs) ys)

  later_is : (xs zs ys : List A) → xs ++ zs ≡ ys → later xs ys ≡ flat p zs
  later_is xs zs ys e = rw (← e, drop-append_seam xs zs)

  none_left : (xs ys : List A) → (xs ≡ ys) ↔ Lines P 0 xs ys
  none_left xs ys = (λ e. ([], append-nil xs ∙ e, omega arith, tt), λ h. go h.0 h.1 h.2)
    where
      go : (zs : List A) → xs ++ zs ≡ ys → length zs ≤ 0 → xs ≡ ys
      go [] e l = sym (append-nil xs) ∙ e
      go (z ∷ zs) e l = absurd (omega arith)

  one_more : (n : ℕ) (xs ys : List A) → ((xs ≡ ys) ⊎ ((a : A) × P a × Lines P n (xs ++ (a ∷ [])) ys)) ↔ Lines P (suc n) xs ys
  one_more n xs ys = (into, λ h. back h.0 h.1 h.2 h.3)
    where
      into : (xs ≡ ys) ⊎ ((a : A) × P a × Lines P n (xs ++ (a ∷ [])) ys) → Lines P (suc n) xs ys
      into (inl e) = ([], append-nil xs ∙ e, omega arith, tt)
      into (inr h) =
          let a = h.0 in
          let l = h.2 in
          (a ∷ l.0, sym (append_assoc xs (a ∷ []) l.0) ∙ l.1, omega (arith, l.2), (h.1, l.3))

      back : (zs : List A) → xs ++ zs ≡ ys → length zs ≤ suc n → Each P zs → (xs ≡ ys) ⊎ ((a : A) × P a × Lines P n (xs ++ (a ∷ [])) ys)
      back [] e l h = inl (sym (append-nil xs) ∙ e)
      back (z ∷ zs) e l h = inr (z, h.0, (zs, append_assoc xs (z ∷ []) zs ∙ e, omega arith, h.1))

  later_self : (xs : List A) → later xs xs ≡ []
  unfolding flat
  later_self xs = later_is xs [] xs (append-nil xs)

  later_on : (n : ℕ) (xs : List A) (a : A) (ys : List A) → Lines P n (xs ++ (a ∷ [])) ys → later xs ys ≡ p a ++ later (xs ++ (a ∷ [])) ys
  unfolding flat
  later_on n xs a ys l =
      later_is xs (a ∷ l.0) ys (sym (append_assoc xs (a ∷ []) l.0) ∙ l.1)
      ∙ ap (λ (t : List ℕ). p a ++ t) (sym (later_is (xs ++ (a ∷ [])) l.0 ys l.1))

  -- at most n more lines
  pub spelling_many : (n : ℕ) (xs : List A) → Spelling true (many (node ok f) n xs) (Lines P n xs) (later xs)
  unfolding many seq
  spelling_many zero xs = spelling_as (none_left xs) (λ ys e. sym (later_self xs) ∙ ap (later xs) e) (opened (spelling_done xs))
  spelling_many (suc n) xs =
      spelling_as (one_more n xs) (λ ys h. refl)
      (spelling_opt xs (later xs) (later_self xs) (λ ys h. refl)
      (spelling_then (λ a. many (node ok f) n (xs ++ (a ∷ []))) (λ a. Lines P n (xs ++ (a ∷ []))) (λ a. later (xs ++ (a ∷ []))) (later xs)
      (λ a ys h l. later_on n xs a ys l) w (λ a h. spelling_many n (xs ++ (a ∷ [])))))

  some_lines : (n : ℕ) (ys : List A)
      → ((a : A) × P a × Lines P n (a ∷ []) ys) ↔ ((1 ≤ length ys) × (length ys ≤ suc n) × Each P ys)
  some_lines n ys = (
    λ h. let l = h.2 in
        subst (λ (zs : List A). (1 ≤ length zs) × (length zs ≤ suc n) × Each P zs) l.1 (omega arith, omega (arith, l.2), (h.1, l.3)),
    λ h. back ys h.0 h.1 h.2,
  )
    where
      back : (zs : List A) → 1 ≤ length zs → length zs ≤ suc n → Each P zs → (a : A) × P a × Lines P n (a ∷ []) zs
      back [] h i e = absurd (omega arith)
      back (z ∷ zs) h i e = (z, e.0, (zs, refl, omega arith, e.1))

  -- 1 to n + 1 lines
  pub spelling_some : (n : ℕ)
      → Spelling true (seq (node ok f) (λ a. many (node ok f) n (a ∷ []))) (λ ys. (1 ≤ length ys) × (length ys ≤ suc n) × Each P ys) (flat p)
  unfolding flat
  spelling_some n =
      spelling_as (some_lines n) (λ ys h. refl)
      (spelling_then (λ a. many (node ok f) n (a ∷ [])) (λ a. Lines P n (a ∷ [])) (λ a. later (a ∷ [])) (flat p) (λ a ys h l. later_on n [] a ys l) w
      (λ a h. spelling_many n (a ∷ [])))
