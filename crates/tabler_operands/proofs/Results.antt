-- The left element by be, one element more in front of what those after it come to, and that each element's cells
-- exist.
-- Assumes nothing.
use borrow.Author.Tests.{leb-true}
use mathlib.Core.Bool.{Bool, true, false}
use mathlib.Core.List.{List, [], ◌∷◌}
use mathlib.Core.Path.{◌≡◌, refl, ap}
use Prim.Native.Nat.{ℕ, suc, ◌+◌, ◌-◌, ◌*◌, ◌/◌, ◌≤◌, ◌<◌}
use native.Mathlib.Nat.{sub_self}
use native.Mathlib.Omega.{arith}
use lib.Dec.{leb}
use Rattle.word.proofs.Tests.{each}
use Rattle.machine.specs.Extension.{element_at, left_at, left_span, nothing}
use Rattle.tables.specs.Groups.{left_index}
use Rattle.tabler_operands.specs.Elements.{left_of, joined_at, result_from, GroupExists, ElementExists}
use Rattle.tabler_operands.specs.declared.Group.{Group}
use Rattle.tabler_operands.specs.declared.Joined.{Joined}

pub left_same : (cell : ℕ → ℕ) (be : Bool) (a i : ℕ) → left_of be (element_at cell (left_index be a i)) ≡ left_at cell be a i
left_same cell true a i = refl
left_same cell false a i = refl

module _ (cell : ℕ → ℕ) (g : Group) where
  pub none_left : {rest : List ℕ} → rest ≡ nothing g.op → rest ≡ result_from cell g g.n
  none_left e = rw (sub_self g.n) e

  pub one_more : (i k : ℕ) → i + 1 ≡ k → k ≤ g.n → {rest : List ℕ} {e : Joined}
      → rest ≡ result_from cell g k → e ≡ joined_at cell g i rest → e.comp ≡ result_from cell g i
  one_more i k next h w made =
      let left : g.n - i ≡ suc (g.n - k) = omega arith in
      let on : suc i ≡ k = omega arith in
      rw (left, on, ← w) (ap (λ (e : Joined). e.comp) made)

module _ {bytes : ℕ} {g : Group} (all : GroupExists bytes g) where
  parts : (g.a + left_span g.be g.n ≤ bytes / 4) × (g.b + 5 * g.n ≤ bytes / 4) × (g.c + 5 ≤ bytes / 4)
  parts =
      let e = each (leb (g.a + left_span g.be g.n) (bytes / 4)) (leb (g.b + 5 * g.n) (bytes / 4) ∷ leb (g.c + 5) (bytes / 4) ∷ []) all.exists in
      (leb-true _ _ e.0, leb-true _ _ e.1.0, leb-true _ _ e.1.1)

  pub result_exists : g.c + 5 ≤ bytes / 4
  result_exists = parts.2

  pub element_exists : (i : ℕ) → i < g.n → ElementExists bytes g i
  element_exists i h = record { short = all.short; left = left g.be parts.0; right = omega (arith, parts.1) }
    where
      left : (be : Bool) → g.a + left_span be g.n ≤ bytes / 4 → left_index be g.a i + 5 ≤ bytes / 4
      left true w = omega arith
      left false w = omega arith
