-- The maker's four answers, each with both buffers at return.
-- Assumes nothing.
use mathlib.Core.Path.{◌≡◌, ap, ◌∙◌}
use mathlib.Core.Bool.{true, false}
use mathlib.Core.List.{List}
use Prim.Native.Nat.{ℕ, ◌+◌, ◌*◌, ◌/◌, ◌^◌, ◌≤◌}
use native.Mathlib.Nat.{pow-le-pow_right}
use native.Mathlib.Omega.{arith}
use borrow.Author.Tests.{eq-eqb, ne_eqb}
use lib.Dec.{lit<}
use lib.ListN.{length}
use Rattle.answer.specs.Answers.{Answer, Accepted, Size}
use Rattle.label.specs.Label.{ranged}
use Rattle.label.specs.declared.Recipe.{Recipe}
use Rattle.label.proofs.Range.{m_low, n_high}
use Rattle.maker_spec.specs.Made.{flat}
use Rattle.maker_spec.specs.Bytes.{instructions_of, cells_of, recipe_draws, make_of, program_after, memory_after}

module _ (r : Recipe) (p q : List ℕ) where
  -- an answer and the two buffers are what the promise says
  abbrev Kept : Answer → List ℕ → List ℕ → Type 0
  Kept a program memory = (a ≡ make_of r (length p) (length q)) × (program ≡ program_after r p q) × (memory ≡ memory_after r p q)

  pub outside : ranged r ≡ false → Kept (Size 0 0) p q
  unfolding make_of
  outside h = (rw h, rw h, rw h)

  module _ (inside : ranged r ≡ true) where
    pub program_refused : (length p ≡ 48 * (r.n + 1) → ⊥) → Kept (Size 1 0) p q
    unfolding make_of
    program_refused h =
        let e = ne_eqb (length p) (48 * (r.n + 1)) h in
        (rw (inside, e), rw (inside, e), rw (inside, e))

    pub memory_refused : length p ≡ 48 * (r.n + 1) → (length q ≡ 4 * 2 ^ r.m → ⊥) → Kept (Size 2 0) p q
    unfolding make_of
    memory_refused g h =
        let d = eq-eqb (length p) (48 * (r.n + 1)) g in
        let e = ne_eqb (length q) (4 * 2 ^ r.m) h in
        (rw (inside, d, e), rw (inside, d, e), rw (inside, d, e))

    -- there is room for every slot
    pub room : length q ≡ 4 * 2 ^ r.m → 128 + 32 * r.n ≤ length q
    room h = omega (arith, pow-le-pow_right {n = 2} (lit< tt) (m_low r inside), n_high r inside)

    pub filled : length p ≡ 48 * (r.n + 1) → length q ≡ 4 * 2 ^ r.m → {program memory : List ℕ}
        → program ≡ instructions_of flat (recipe_draws r) r.n (r.n + 1) → memory ≡ cells_of flat (recipe_draws r) r.n (length q / 4) → Kept Accepted program memory
    unfolding make_of
    filled g h eq em =
        let d = eq-eqb (length p) (48 * (r.n + 1)) g in
        let e = eq-eqb (length q) (4 * 2 ^ r.m) h in
        let size : length q / 4 ≡ 2 ^ r.m = omega arith in
        (rw (inside, d, e), rw (inside, d, e) eq, rw (inside, d, e) (em ∙ ap (cells_of flat (recipe_draws r) r.n) size))
