-- `element::fold::add_times` meets its contract: sum by sum.
-- Assumes nothing.
use mathlib.Core.Path.{refl}
use Prim.Native.Nat.{ℕ, ◌+◌, ◌*◌, ◌≤◌}
use native.Mathlib.Omega.{arith}
use Rattle.word.proofs.Lists.{◌∷≡◌}
use Rattle.word.specs.Element.{◌+ₑ◌, ◌·ₑ◌}
use Rattle.element.proofs.fold.add_times.Goals as goal

one_more : (k : ℕ) {s r : ℕ} → s ≤ 4539909899366170624 * k → r ≤ s + 4539909899366170624 → r ≤ 4539909899366170624 * (k + 1)
one_more k h m = omega arith

pub returns : goal.returns
unfolding ◌+ₑ◌ ◌·ₑ◌
returns c =
    let m₀ = c.more.ensures in
    let m₁ = c.more-2.ensures in
    let m₂ = c.more-3.ensures in
    let m₃ = c.more-4.ensures in
    let m₄ = c.more-5.ensures in (
      m₀.0 ∷≡ m₁.0 ∷≡ m₂.0 ∷≡ m₃.0 ∷≡ m₄.0 ∷≡ refl,
      λ (k : ℕ) h. (one_more k h.0 m₀.1, one_more k h.1 m₁.1, one_more k h.2 m₂.1, one_more k h.3 m₃.1, one_more k h.4 m₄.1),
    )

pub more-requires : goal.more-requires
more-requires c = let (x, b, room) = c.requires in (x, b.all_words 0, room.0)

pub more-requires-2 : goal.more-requires-2
more-requires-2 c = let (x, b, room) = c.requires in (x, b.all_words 1, room.1)

pub more-requires-3 : goal.more-requires-3
more-requires-3 c = let (x, b, room) = c.requires in (x, b.all_words 2, room.2)

pub more-requires-4 : goal.more-requires-4
more-requires-4 c = let (x, b, room) = c.requires in (x, b.all_words 3, room.3)

pub more-requires-5 : goal.more-requires-5
more-requires-5 c = let (x, b, room) = c.requires in (x, b.all_words 4, room.4)
