-- A place of a text by the bytes that are left there.
-- Assumes nothing.
use Prim.Native.Nat.{ℕ, ◌-◌, ◌≤◌}
use mathlib.Core.List.{List}
use mathlib.Core.Path.{◌≡◌}
use native.Mathlib.Omega.{arith}
use lib.ListN.{length, drop, length-drop}

pub place_left : (text : List ℕ) (i : ℕ) → i ≤ length text → i ≡ length text - length (drop i text)
place_left text i h = omega (arith, length-drop i text)
