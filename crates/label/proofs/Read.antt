-- What each end of the reading owes: the text is all read, there is more of it, or it has left every valid label.
-- Assumes nothing.
use Prim.Native.Nat.{ℕ, suc, ◌-◌, ◌^◌, ◌≤◌, ◌<◌}
use mathlib.Core.List.{List, [], ◌∷◌}
use mathlib.Core.Logic.{inl, inr}
use mathlib.Core.Path.{◌≡◌, refl, subst}
use native.Mathlib.Omega.{arith}
use lib.ListN.{length, drop, get_or, length-drop, drop_of_length-le}
use lib.Seq.{drop-cons}
use Rattle.answer.specs.Answers.{Accepted}
use Rattle.text_patterns.specs.Pattern.{Parsed, got, left, parse}
use Rattle.text_patterns.specs.Place.{Place}
use Rattle.text_patterns.proofs.Parsing.{ParseOwed, parse_owed}
use Rattle.label.specs.Label.{InRange, label_of}
use Rattle.label.specs.Reading.{Reading, Valid, Reads}
use Rattle.label.specs.Reader.{label, refused_at}
use Rattle.label.specs.declared.Recipe.{Recipe}
use Rattle.label.proofs.Labels.{spelling_label}
use Rattle.label.proofs.Length.{place_most}

module _ (text : List ℕ) where
  owed : (p : Parsed Recipe) → parse label text ≡ p → ParseOwed InRange label_of text p
  owed p e = subst (ParseOwed InRange label_of text) e (parse_owed spelling_label text)

  abbrev Left : ℕ → Type 0
  Left i = (Valid text → ⊥) × Place Valid text i

  pub stopped_left : (i : ℕ) → i ≤ length text → parse label text ≡ left (drop i text) → Left i
  stopped_left i h e =
      let o = owed (left (drop i text)) e in
      let place : length text - length (drop i text) ≡ i = omega (arith, length-drop i text) in
      (o.0, subst (Place Valid text) place o.1)

  pub more_left : (i : ℕ) (r : Recipe) → i < length text → parse label text ≡ got r (drop i text) → Left i
  more_left i r h e =
      let o = owed (got r (get_or text i 0 ∷ drop (suc i) text)) (rw (← drop-cons text i 0 h) e) in
      let place : length text - suc (length (drop (suc i) text)) ≡ i = omega (arith, length-drop (suc i) text) in
      (o.0, subst (Place Valid text) place o.1)

  -- a place fits 32 bits
  pub left_fits : (i : ℕ) → Left i → i < 2 ^ 32
  left_fits i l = omega (arith, place_most l.1)

  pub refuses : (i : ℕ) {R : Reading} → Left i → R ≡ refused_at i → Reads text R
  refuses i l is = rw is (inr (record { place = i; answer = refl; invalid = l.0; nearest = l.1; recipe = refl }))

  pub accepts : (i : ℕ) (r : Recipe) → length text ≤ i → parse label text ≡ got r (drop i text) → Reads text (record { answer = Accepted; recipe = r })
  accepts i r h e =
      let o = owed (got r []) (rw (← drop_of_length-le text h) e) in
      inl (record { answer = refl; range = o.0; label = o.1 })
