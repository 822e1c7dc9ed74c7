-- The row that row r of n rows is paired with: the next one, and of the last row itself.
-- Assumes nothing.
use mathlib.Core.Path.{◌≡◌}
use Prim.Native.Nat.{ℕ, ◌+◌, ◌≤◌, ◌<◌}
use native.Mathlib.Omega.{arith}
use lib.Dec.{ltb}
use borrow.Author.Tests.{ltb-true, lt-ltb, le-ltb}
use Rattle.word.proofs.Tests.{by_test}
use Rattle.rules.specs.Given.{next}

module _ (n r : ℕ) where
  pub next_inner : r + 1 < n → next n r ≡ r + 1
  next_inner h = rw (lt-ltb (r + 1) n h)

  pub next_last : n ≤ r + 1 → next n r ≡ r
  next_last h = rw (le-ltb (r + 1) n h)

  pub next_below : r < n → next n r < n
  next_below h = by_test (λ (k : ℕ). k < n) (ltb (r + 1) n) (ltb-true (r + 1) n) (λ _. h)

  pub next_later : r ≤ next n r
  next_later = by_test (λ (k : ℕ). r ≤ k) (ltb (r + 1) n) (λ _. omega arith) (λ _. omega arith)
