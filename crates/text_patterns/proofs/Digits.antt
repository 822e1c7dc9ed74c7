-- So many digits of a base, and one digit of a range.
-- Assumes nothing.
use Prim.Native.Nat.{ℕ, zero, suc, ◌+◌, ◌*◌, ◌/◌, ◌%◌, ◌^◌, ◌≤◌, ◌<◌}
use mathlib.Core.Bool.{false}
use mathlib.Core.List.{List, [], ◌∷◌, ◌++◌}
use mathlib.Core.Path.{◌≡◌, refl, ◌∙◌, ap, ap₂, sym}
use native.Mathlib.Omega.{arith}
use native.Mathlib.Nat.{div-one, div-div-eq-div-mul, mod-lt, div-add-mod, mul-add-div, mul-add-mod_self_left, mod-eq_of_lt, div-eq_of_lt, pow-zero, pow-suc, pow-succ'}
use lib.Dec.{leb}
use borrow.Author.Tests.{ltb-true, lt-ltb, le-leb, leb-true}
use Rattle.text_patterns.specs.Pattern.{Spells, Live, Spelling}
use Rattle.text_patterns.specs.Fields.{Digits, lowest, digits, one}
use Rattle.text_patterns.proofs.Patterns.{spells_kind}
use Rattle.text_patterns.proofs.Joined.{live_as}
use Rattle.word.proofs.Tests.{each}

module _ {base : ℕ} {byte value : ℕ → ℕ} (D : Digits base byte value) where
  abbrev Begins : ℕ → ℕ → ℕ → Type 0
  Begins d x y = y / base ^ d ≡ x

  shorter : (d x v y : ℕ) → v < base → Begins d (base * x + v) y → Begins (suc d) x y
  shorter d x v y h e =
      rw (pow-suc, ← div-div-eq-div-mul y (base ^ d) base, e, mul-add-div D.some x v, div-eq_of_lt h) (omega arith)

  longer : (d x y : ℕ) → Begins (suc d) x y → Begins d (base * x + y / base ^ d % base) y
  longer d x y e =
      sym (div-add-mod (y / base ^ d) base)
      ∙ ap (λ (z : ℕ). base * z + y / base ^ d % base) (div-div-eq-div-mul y (base ^ d) base ∙ rw (← pow-suc) e)

  live_digits : (d x : ℕ) → Live false (Begins d x) (digits base value d x)
  unfolding digits
  live_digits zero x = rw pow-zero (div-one x)
  live_digits (suc d) x = (
    (byte 0, rw (D.value_byte 0 D.some) (lt-ltb 0 base D.some)),
    λ b e. live_as false (Begins d (base * x + value b)) (Begins (suc d) x) (digits base value d (base * x + value b))
        (λ y. shorter d x (value b) y (ltb-true (value b) base e)) (live_digits d (base * x + value b)),
  )

  sound_digits : (d x : ℕ) (t : List ℕ) (y : ℕ) → Spells (digits base value d x) t y → lowest base byte d y ≡ t
  unfolding digits lowest
  sound_digits zero x [] y h = refl
  sound_digits zero x (b ∷ t) y h = absurd h
  sound_digits (suc d) x [] y h = absurd h
  sound_digits (suc d) x (b ∷ t) y h =
      let v : value b < base = ltb-true (value b) base h.0 in
      let e = spells_kind false (Begins d (base * x + value b)) t (digits base value d (base * x + value b)) y (live_digits d (base * x + value b)) h.1 in
      ap₂ (λ (c : ℕ) (s : List ℕ). c ∷ s)
      (rw (e, mul-add-mod_self_left base x (value b), mod-eq_of_lt v) (D.byte_value b v)) (sound_digits d (base * x + value b) t y h.1)

  complete_digits : (d x y : ℕ) → Begins d x y → Spells (digits base value d x) (lowest base byte d y) y
  unfolding digits lowest
  complete_digits zero x y h = sym h ∙ rw pow-zero (div-one y)
  complete_digits (suc d) x y h =
      let r : y / base ^ d % base < base = mod-lt (y / base ^ d) D.some in
      rw (D.value_byte (y / base ^ d % base) r)
      (lt-ltb (y / base ^ d % base) base r, complete_digits d (base * x + y / base ^ d % base) y (longer d x y h))

  -- d digits, of a number that begins with x
  pub spelling_digits : (d x : ℕ) → Spelling false (digits base value d x) (λ y. y / base ^ d ≡ x) (lowest base byte d)
  spelling_digits d x = record { live = live_digits d x; sound = sound_digits d x; complete = complete_digits d x }

  -- one digit of a range
  pub spelling_one : (low high : ℕ) → low ≤ high → high < base
      → Spelling false (one value low high) (λ y. (low ≤ y) × (y ≤ high)) (λ y. byte y ∷ [])
  unfolding one
  spelling_one low high l h = record {
    live = (
      (byte low, rw (D.value_byte low (omega arith)) (rw (le-leb low low (omega arith), le-leb low high l))),
      λ b e. let p = each (leb low (value b)) (leb (value b) high ∷ []) e in
          (leb-true low (value b) p.0, leb-true (value b) high p.1),
    );
    sound = sound;
    complete = λ a p. rw (D.value_byte a (omega arith))
        (rw (le-leb low a p.0, le-leb a high p.1), refl);
  }
    where
      sound : (t : List ℕ) (a : ℕ) → Spells (one value low high) t a → byte a ∷ [] ≡ t
      sound [] a r = absurd r
      sound (b ∷ []) a r =
          let v : value b < base = omega (arith, leb-true (value b) high (each (leb low (value b)) (leb (value b) high ∷ []) r.0).1) in
          ap (λ (c : ℕ). c ∷ []) (rw (← r.1) (D.byte_value b v))
      sound (b ∷ c ∷ t) a r = absurd r.1

-- the lowest digit last
pub lowest_last : (base : ℕ) (byte : ℕ → ℕ) (d y : ℕ) → lowest base byte (suc d) y ≡ lowest base byte d (y / base) ++ (byte (y % base) ∷ [])
unfolding lowest
lowest_last base byte zero y = rw (pow-zero, div-one)
lowest_last base byte (suc d) y =
    ap₂ (λ (c : ℕ) (s : List ℕ). byte (c % base) ∷ s) (rw pow-succ' (sym (div-div-eq-div-mul y base (base ^ d)))) (lowest_last base byte d y)
