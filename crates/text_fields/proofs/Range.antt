-- A number is in a range or it is not, in the code's words and in a field's.
-- Assumes nothing.
use Prim.Native.Nat.{ℕ, ◌≤◌, ◌<◌}
use mathlib.Core.Bool.{Bool, true, false, not, ◌&&◌, ◌||◌}
use mathlib.Core.List.{[], ◌∷◌}
use mathlib.Core.Path.{◌≡◌, refl, sym}
use lib.Dec.{ltb, leb}
use borrow.Author.Tests.{le-leb, lt-leb, lt-ltb, le-ltb, leb-true}
use Rattle.word.proofs.Tests.{by_order, cases, from_true, each}

-- at least is not below
not_below : (a b : ℕ) → leb a b ≡ not (ltb b a)
not_below a b = by_order b a (λ h. rw (lt-leb a b h, lt-ltb b a h)) (λ h. rw (le-leb a b h, le-ltb b a h))

none : (u v : Bool) → u || v ≡ true → not u && not v ≡ false
none true v e = refl
none false true e = refl
none false false e = absurd (from_true false e)

all : (u v : Bool) → u || v ≡ false → not u && not v ≡ true
all true v e = absurd (from_true false (sym e))
all false true e = absurd (from_true false (sym e))
all false false e = refl

module _ (low high d : ℕ) where
  pub outside : ltb d low || ltb high d ≡ true → leb low d && leb d high ≡ false
  outside e = rw (not_below low d, not_below d high) (none (ltb d low) (ltb high d) e)

  pub inside : ltb d low || ltb high d ≡ false → leb low d && leb d high ≡ true
  inside e = rw (not_below low d, not_below d high) (all (ltb d low) (ltb high d) e)

  -- the same of a digit
  pub digit_outside : ltb d low || ltb high d ≡ true → ltb d 10 && (leb low d && leb d high) ≡ false
  digit_outside e = cases (ltb d 10) (λ t. rw t (outside e)) (λ t. rw t)

  pub digit_inside : d < 10 → ltb d low || ltb high d ≡ false → ltb d 10 && (leb low d && leb d high) ≡ true
  digit_inside h e = rw (lt-ltb d 10 h) (inside e)

  pub most : ltb d low || ltb high d ≡ false → d ≤ high
  most e = leb-true d high (each (leb low d) (leb d high ∷ []) (inside e)).1
