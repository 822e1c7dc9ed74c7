-- What a recipe's range says of its numbers.
-- Assumes nothing.
use Prim.Native.Nat.{ℕ, ◌≤◌}
use mathlib.Core.Bool.{true}
use mathlib.Core.List.{[], ◌∷◌}
use mathlib.Core.Path.{◌≡◌}
use lib.Dec.{leb}
use borrow.Author.Tests.{leb-true, le-leb}
use Rattle.word.proofs.Tests.{Each, each}
use Rattle.label.specs.Label.{ranged, within}
use Rattle.label.specs.declared.Recipe.{Recipe}

inside : (low high x : ℕ) → within low high x ≡ true → (low ≤ x) × (x ≤ high)
inside low high x e =
    let b = each (leb low x) (leb x high ∷ []) e in
    (leb-true low x b.0, leb-true x high b.1)

module _ (r : Recipe) (h : ranged r ≡ true) where
  three : Each (within 1 2 r.version) (within 10 29 r.m ∷ within 1 124 r.n ∷ [])
  three = each (within 1 2 r.version) (within 10 29 r.m ∷ within 1 124 r.n ∷ []) h

  pub version_low : 1 ≤ r.version
  version_low = (inside 1 2 r.version three.0).0

  pub version_high : r.version ≤ 2
  version_high = (inside 1 2 r.version three.0).1

  pub m_low : 10 ≤ r.m
  m_low = (inside 10 29 r.m three.1.0).0

  pub m_high : r.m ≤ 29
  m_high = (inside 10 29 r.m three.1.0).1

  pub n_low : 1 ≤ r.n
  n_low = (inside 1 124 r.n three.1.1).0

  pub n_high : r.n ≤ 124
  n_high = (inside 1 124 r.n three.1.1).1

-- numbers in their ranges are a recipe's
pub in_ranges : (r : Recipe) → (1 ≤ r.version) × (r.version ≤ 2) → (10 ≤ r.m) × (r.m ≤ 29) → (1 ≤ r.n) × (r.n ≤ 124) → ranged r ≡ true
in_ranges r v m n =
    rw (
      le-leb 1 r.version v.0,
      le-leb r.version 2 v.1,
      le-leb 10 r.m m.0,
      le-leb r.m 29 m.1,
      le-leb 1 r.n n.0,
      le-leb r.n 124 n.1,
    )
