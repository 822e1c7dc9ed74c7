-- Every cell by its number, and that a slot reads no cell but the drawn ones.
-- Assumes nothing.
use mathlib.Core.Path.{◌≡◌, refl, ap, ap₂}
use mathlib.Core.Bool.{Bool, true, false}
use Prim.Native.Nat.{ℕ, zero, suc, ◌+◌, ◌-◌, ◌*◌, ◌/◌, ◌%◌, ◌≤◌, ◌<◌}
use native.Mathlib.Omega.{arith}
use borrow.Author.Tests.{lt-ltb, le-ltb}
use Rattle.word.specs.Element.{element}
use Rattle.word.proofs.Lists.{◌∷≡◌}
use Rattle.form.specs.declared.Kind.{Kind}
use Rattle.form.specs.declared.Op.{Op}
use Rattle.machine.specs.Extension.{element_at, left_at, term_of, joined, extension_result}
use Rattle.maker_draws.specs.Drawn.{Draws}
use Rattle.maker_spec.specs.Made.{Profile, slot_size, slot, kind_picked, op_picked, be_picked, count_picked, left_picked, right_picked, slot_cells, slot_cell, cell_of}
use Rattle.maker_law.proofs.Making.{by_kind}

module _ (profile : Profile) (d : Draws) (n : ℕ) where
  pub drawn_cell : (k : ℕ) → k < 32 → cell_of profile d n k ≡ d.cell k
  unfolding cell_of
  drawn_cell k h = rw (lt-ltb k 32 h)

  pub slot_cell_lem : (i j : ℕ) → i < n → j < slot_size → cell_of profile d n (slot i + j) ≡ slot_cell profile d i j
  unfolding cell_of
  slot_cell_lem i j h b =
      let number : (slot i + j - 32) / slot_size ≡ i = omega arith in
      let place : (slot i + j - 32) % slot_size ≡ j = omega arith in
      rw (le-ltb (slot i + j) 32 (omega arith), number, place, lt-ltb i n h)

  pub cell_past : (j : ℕ) → cell_of profile d n (slot n + j) ≡ 0
  unfolding cell_of
  cell_past j = rw (le-ltb (slot n + j) 32 (omega arith), le-ltb ((slot n + j - 32) / slot_size) n (omega arith))

-- two memories with the same drawn cells have the same slots
module _ (f g : ℕ → ℕ) (same : (k : ℕ) → k < 32 → f k ≡ g k) where
  element_same : (x : ℕ) → x + 4 < 32 → element_at f x ≡ element_at g x
  element_same x h =
      same x (omega arith) ∷≡ same (x + 1) (omega arith) ∷≡ same (x + 2) (omega arith) ∷≡ same (x + 3) (omega arith) ∷≡ same (x + 4) (omega arith) ∷≡ refl

  left_same : (be : Bool) (a i : ℕ) → a + 5 * i + 4 < 32 → left_at f be a i ≡ left_at g be a i
  left_same true a i h = ap element (same (a + i) (omega arith))
  left_same false a i h = element_same (a + 5 * i) h

  result_same : (op : Op) (be : Bool) (a b i n : ℕ) → a + 5 * (i + n) ≤ 32 → b + 5 * (i + n) ≤ 32 → extension_result f op be a b i n ≡ extension_result g op be a b i n
  result_same op be a b i zero ha hb = refl
  result_same op be a b i (suc n) ha hb =
      ap₂ (joined op) (ap₂ (term_of op) (left_same be a i (omega arith)) (element_same (b + 5 * i) (omega arith)))
      (result_same op be a b (suc i) n (omega arith) (omega arith))

  -- an extension's elements lie among the drawn cells
  pub picked_same : (a c : ℕ) → (let n = count_picked c in
      extension_result f (op_picked c) (be_picked c) (left_picked a) (right_picked a) 0 n ≡ extension_result g (op_picked c) (be_picked c) (left_picked a) (right_picked a) 0 n)
  picked_same a c = result_same (op_picked c) (be_picked c) (left_picked a) (right_picked a) 0 (count_picked c) (omega arith) (omega arith)

  pub slot_same : (profile : Profile) (kind a c : ℕ) → a < 32 → c < 32
      → slot_cells profile f (kind_picked kind c) a c ≡ slot_cells profile g (kind_picked kind c) a c
  slot_same profile kind a c ha hc =
      by_kind (λ (k : Kind). slot_cells profile f k a c ≡ slot_cells profile g k a c) kind c (rw (same a ha, same c hc)) (rw (same a ha, same c hc))
      (rw (same a ha)) refl (picked_same a c)
