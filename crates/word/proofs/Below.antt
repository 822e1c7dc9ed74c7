-- Two words below a bound, from the tests; and a list of them, one after the other.
-- Assumes nothing.
use mathlib.Core.Path.{◌≡◌}
use mathlib.Core.Bool.{true, ◌&&◌}
use mathlib.Core.List.{List, [], ◌∷◌}
use Prim.Native.Nat.{ℕ, zero, suc, ◌<◌}
use lib.Dec.{ltb}
use lib.ListN.{get_or}
use borrow.Author.Tests.{ltb-true}
use Rattle.word.proofs.Tests.{each}

pub both_below : (x y n : ℕ) → ltb x n && ltb y n ≡ true → (x < n) × (y < n)
both_below x y n e =
    let (a, b) = each (ltb x n) (ltb y n ∷ []) e in
    (ltb-true x n a, ltb-true y n b)

abbrev pub AllBelow : ℕ → List ℕ → Type 0
AllBelow n [] = 0 < n
AllBelow n (x ∷ xs) = (x < n) × AllBelow n xs

pub each_below : {n : ℕ} (l : List ℕ) → AllBelow n l → (k : ℕ) → get_or l k 0 < n
each_below [] b k = b
each_below (x ∷ xs) b zero = b.0
each_below (x ∷ xs) b (suc k) = each_below xs b.1 k
