-- The maker is not blind to its seed: the seed's upper half alone changes the first draw, always; and three memories
-- differ, whatever their versions.
-- Assumes nothing.
use mathlib.Core.Path.{◌≡◌, refl, sym, ap, ◌∙◌}
use mathlib.Core.Bool.{false}
use mathlib.Core.List.{List}
use Prim.Native.Nat.{ℕ, ◌+◌, ◌*◌, ◌/◌, ◌%◌, ◌^◌, ◌<◌}
use native.Mathlib.Omega.{arith}
use borrow.Author.Tests.{eqb-false}
use lib.Pow.{pow_pos}
use lib.Dec.{eqb, lit<}
use Rattle.word.specs.Word.{p}
use Rattle.word.specs.Bytes.{word_at}
use Rattle.label.specs.declared.Recipe.{Recipe}
use Rattle.draw.specs.Draw.{advance}
use Rattle.maker_draws.specs.Drawn.{state_after, drawn, draws_of}
use Rattle.maker_draws.proofs.Versions.{first_kept}
use Rattle.maker_spec.specs.Made.{flat}
use Rattle.maker_spec.specs.Bytes.{memory_of}
use Rattle.maker_law.proofs.WellFormed.{drawable}
use Rattle.maker_law.proofs.ReadBack.{cell_read}
use Rattle.maker_law.proofs.Cells.{drawn_cell}

-- a multiple of 2^32 that is added to the state shows in its upper half, modulo 2^32
shows : (x y : ℕ) → x % 2 ^ 64 / 2 ^ 32 ≡ (x + 2 ^ 32 * y) % 2 ^ 64 / 2 ^ 32 → y % 2 ^ 32 ≡ 0
shows x y e = omega arith

no_multiple : (d u v : ℕ) → 0 < d → d < 2 ^ 32 → d + 4294967296 * u ≡ 4294967296 * v → ⊥
no_multiple d u v low high e = omega arith

-- the multiplier is odd: 849225893 undoes it modulo 2^32
odd : (d : ℕ) → 0 < d → d < 2 ^ 32 → 6364136223846793005 * d % 2 ^ 32 ≡ 0 → ⊥
odd d low high e =
    no_multiple d (1258353997922954309 * d) (849225893 * (6364136223846793005 * d / 2 ^ 32)) low high
    (undone d (6364136223846793005 * d / 2 ^ 32) (omega arith))
  where
    undone : (d k : ℕ) → 6364136223846793005 * d ≡ 4294967296 * k → d + 4294967296 * (1258353997922954309 * d) ≡ 4294967296 * (849225893 * k)
    undone d k e = omega arith

-- two seeds d times 2^32 apart
pub upper_half : (seed d : ℕ) → 0 < d → d < 2 ^ 32 → drawn seed 0 ≡ drawn (seed + 2 ^ 32 * d) 0 → ⊥
unfolding state_after advance
upper_half seed d low high e =
    let apart : 6364136223846793005 * (seed + 2 ^ 32 * d) + 1442695040888963407 ≡ 6364136223846793005 * seed + 1442695040888963407 + 2 ^ 32 * (6364136223846793005 * d) = omega arith in
    odd d low high (shows (6364136223846793005 * seed + 1442695040888963407) (6364136223846793005 * d) (rw apart at e))

-- two recipes with one memory have the same cell 0
module _ (m n : ℕ) where
  abbrev pub seeded : ℕ → ℕ → Recipe
  seeded version seed = record { version = version; seed = seed; m = m; n = n }

  pub first_cell : (v w x y : ℕ) → memory_of (seeded v x) ≡ memory_of (seeded w y) → (draws_of v x).cell 0 ≡ (draws_of w y).cell 0
  first_cell v w x y e = sym (read v x) ∙ ap (λ (s : List ℕ). word_at s 0) e ∙ read w y
    where
      read : (version seed : ℕ) → word_at (memory_of (seeded version seed)) 0 ≡ (draws_of version seed).cell 0
      read version seed = cell_read flat (draws_of version seed) n (drawable version seed) (2 ^ m) 0 (pow_pos m) ∙ drawn_cell flat (draws_of version seed) n 0 (lit< tt)

  -- which is the first draw modulo p where that is below 2·p, whatever the versions
  module _ (v w : ℕ) where
    told_apart : (x y : ℕ) → drawn x 0 < 2 * p → drawn y 0 < 2 * p → eqb (drawn x 0 % p) (drawn y 0 % p) ≡ false
        → memory_of (seeded v x) ≡ memory_of (seeded w y) → ⊥
    told_apart x y kx ky differ e = eqb-false (drawn x 0 % p) (drawn y 0 % p) differ (sym (first_kept v x kx) ∙ first_cell v w x y e ∙ first_kept w y ky)

    -- 000000002fffffff, 000000012fffffff and ffffffff2fffffff: three memories
    pub low_middle : memory_of (seeded v 805306367) ≡ memory_of (seeded w 5100273663) → ⊥
    unfolding state_after advance
    low_middle = told_apart 805306367 5100273663 (lit< tt) (lit< tt) refl

    pub low_high : memory_of (seeded v 805306367) ≡ memory_of (seeded w 18446744070219890687) → ⊥
    unfolding state_after advance
    low_high = told_apart 805306367 18446744070219890687 (lit< tt) (lit< tt) refl

    pub middle_high : memory_of (seeded v 5100273663) ≡ memory_of (seeded w 18446744070219890687) → ⊥
    unfolding state_after advance
    middle_high = told_apart 5100273663 18446744070219890687 (lit< tt) (lit< tt) refl
