-- A cell's draw as the loop makes it: what a turn leaves, and the three ways in which it ends.
-- Assumes nothing.
use mathlib.Core.Path.{◌≡◌, refl, sym, ap, ◌∙◌}
use mathlib.Core.Bool.{Bool, true, false, ◌||◌}
use Prim.Native.Nat.{ℕ, zero, suc, ◌+◌, ◌-◌, ◌*◌, ◌/◌, ◌^◌, ◌≤◌, ◌<◌}
use native.Mathlib.Omega.{arith}
use borrow.Author.Tests.{lt-ltb, le-ltb}
use lib.Dec.{eqb}
use Rattle.word.specs.Word.{p}
use Rattle.draw.specs.Draw.{advance}
use Rattle.maker_draws.specs.Drawn.{kept, again}

-- s is the state at hand, after as many as were thrown away; what may still be drawn from it ends where the whole does
module _ (version s number thrown whole : ℕ) (is : number ≡ s / 2 ^ 32) (left : whole ≡ again version (8 - thrown) s) where
  pub turn : thrown < 8 → eqb version 1 ≡ false → 2 * p ≤ number → whole ≡ again version (8 - (thrown + 1)) (advance s)
  unfolding again
  turn few later high =
      let one : 8 - thrown ≡ suc (8 - (thrown + 1)) = omega arith in
      left ∙ rw (one, later, ← is, le-ltb number (2 * p) high)

  -- the number and the state that are taken
  abbrev Taken : Type 0
  Taken = (number ≡ whole / 2 ^ 32) × (s ≡ whole)

  here : again version (8 - thrown) s ≡ s → Taken
  here e =
      let end = sym (left ∙ e) in
      (is ∙ ap (λ (x : ℕ). x / 2 ^ 32) end, end)

  kept_here : kept version number ≡ true → Taken
  unfolding again
  kept_here h = here (stops (8 - thrown))
    where
      stops : (k : ℕ) → again version k s ≡ s
      stops zero = refl
      stops (suc k) = rw (← is, h)

  -- none may be thrown away any more
  pub full : 8 ≤ thrown → Taken
  unfolding again
  full h = let none : 8 - thrown ≡ 0 = omega arith in here (rw none)

  pub plain : eqb version 1 ≡ true → Taken
  plain e = kept_here (rw e)

  pub low : number < 2 * p → Taken
  low h = kept_here (rw (lt-ltb number (2 * p) h) (either_true (eqb version 1)))
    where
      either_true : (b : Bool) → b || true ≡ true
      either_true true = refl
      either_true false = refl
