-- What plain comparisons say of a rule: a gate that is 0 or two words that are equal leave 0, and a rule that holds is
-- passed.
-- Assumes nothing.
use borrow.Author.Tests.{eq-eqb, eqb-true, leb-true, lt-ltb}
use mathlib.Core.Path.{◌≡◌, refl, ◌∙◌}
use mathlib.Core.Bool.{Bool, true, false, false≢true, cond}
use mathlib.Core.List.{List, [], ◌∷◌, ◌++◌}
use Prim.Native.Nat.{ℕ, ◌+◌, ◌*◌, ◌/◌, ◌%◌, ◌<◌}
use native.Mathlib.Nat.{add-zero}
use native.Mathlib.Omega.{arith}
use lib.Dec.{leb, eqb}
use lib.ListN.{length}
use Rattle.word.specs.Word.{◌-ₚ◌, ◌*ₚ◌}
use Rattle.word.specs.Bytes.{word_at}
use Rattle.word.specs.Element.{◌⟨◌⟩}
use Rattle.word.proofs.Tests.{each}
use Rattle.word.proofs.WordLaws.{product_comm, product_zero, difference_self}
use Rattle.rules.specs.Given.{zero?}
use Rattle.judge_lookups.specs.Memory.{cell_bytes, cell_is, cells_are, held_bytes, held_are}
use Rattle.judge_lookups.proofs.Seam.{some_there, word_lent, held_joined}

pub shut : (x : ℕ) → 0 *ₚ x ≡ 0
shut x = product_comm 0 x ∙ product_zero x

-- a rule that holds leaves what comes after it
pub pass : {b : Bool} {x y : ℕ} (n : ℕ) → b ≡ true → x ≡ y → cond b x n ≡ y
pass n e s = rw e s

-- a test that failed shows nothing
pub never : {A : Type 0} → false ≡ true → A
never e = absurd (false≢true e)

pub shut_rule : (gate x : ℕ) → gate ≡ 0 → zero? (gate *ₚ x) ≡ true
shut_rule gate x e = eq-eqb (gate *ₚ x) 0 (rw (e, shut))

pub same_rule : (gate x y : ℕ) → x ≡ y → zero? (gate *ₚ (x -ₚ y)) ≡ true
same_rule gate x y e = eq-eqb (gate *ₚ (x -ₚ y)) 0 (rw (e, difference_self, product_zero))

-- the same by the test
pub same_test : (gate x y : ℕ) → eqb x y ≡ true → zero? (gate *ₚ (x -ₚ y)) ≡ true
same_test gate x y t = same_rule gate x y (eqb-true x y t)

-- five cells that one buffer holds are the memory's
module _ (public rest : List ℕ) (addr : ℕ) (a : List ℕ) (seam : length public % 4 ≡ 0) where
  abbrev held : List ℕ
  held = held_bytes public rest addr 5

  module _ (some : 0 < length held) where
    lent : held ≡ cell_bytes (public ++ rest) addr 5
    lent = held_joined public rest addr 5 seam some

    same : (at j : ℕ) → at ≡ 4 * j → j < 5 → eqb (a ⟨ j ⟩) (word_at held at) ≡ true → cell_is (public ++ rest) (addr + j) (a ⟨ j ⟩) ≡ true
    same at j k b e =
        let there = some_there (public ++ rest) addr 5 lent some in
        rw (lt-ltb (addr + j) (length (public ++ rest) / 4) (omega (arith, there)), ← word_lent (public ++ rest) addr 5 lent at j k there b) e

  pub held_cells : held_are public rest addr a ≡ true → cells_are (public ++ rest) addr a ≡ true
  held_cells e =
      let t = each (leb 20 (length held))
      (eqb (a ⟨ 0 ⟩) (word_at held 0) ∷ eqb (a ⟨ 1 ⟩) (word_at held 4) ∷ eqb (a ⟨ 2 ⟩) (word_at held 8) ∷ eqb (a ⟨ 3 ⟩) (word_at held 12) ∷ eqb (a ⟨ 4 ⟩) (word_at held 16) ∷ [])
      e in
      let some : 0 < length held = omega (arith, leb-true 20 (length held) t.0) in
      rw (
        rw (add-zero addr) at (same some 0 0 refl (omega arith) t.1.0),
        same some 4 1 refl (omega arith) t.1.1.0,
        same some 8 2 refl (omega arith) t.1.1.1.0,
        same some 12 3 refl (omega arith) t.1.1.1.1.0,
        same some 16 4 refl (omega arith) t.1.1.1.1.1,
      )
