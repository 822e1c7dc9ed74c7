-- In either profile every instruction that is made is well-formed, and every word below p.
-- Assumes nothing.
use mathlib.Core.Path.{◌≡◌, refl}
use mathlib.Core.Bool.{true}
use mathlib.Core.List.{[], ◌∷◌}
use Prim.Native.Nat.{ℕ, ◌+◌, ◌-◌, ◌/◌, ◌%◌, ◌≤◌, ◌<◌}
use native.Mathlib.Nat.{mod-lt}
use native.Mathlib.Omega.{arith}
use borrow.Author.Tests.{ltb-true}
use lib.Dec.{ltb, lit<}
use lib.ListN.{get_or}
use Rattle.word.specs.Word.{p, IsWord, ◌+ₚ◌, ◌*ₚ◌}
use Rattle.word.proofs.Below.{AllBelow, each_below}
use Rattle.word.proofs.WordLaws.{sum_word, difference_word, product_word}
use Rattle.form.specs.Form.{decode_of, well_formed}
use Rattle.form.specs.declared.Instruction.{Instruction}
use Rattle.form.specs.declared.Kind.{Kind}
use Rattle.word.proofs.Tests.{by_test}
use Rattle.form.proofs.DataLaws.{written}
use Rattle.form.specs.Instruction.{instruction_words}
use Rattle.maker_draws.specs.Drawn.{Draws, draws_of}
use Rattle.maker_spec.specs.Made.{
  Drawable,
  Profile,
  flat,
  frames,
  slot_size,
  slot,
  op_picked,
  be_picked,
  count_picked,
  left_picked,
  right_picked,
  kind_picked,
  jump_made,
  made,
  jump_cells,
  slot_cells,
  frame_at,
  instruction_made,
  cell_of,
}
use Rattle.maker_law.proofs.Making.{by_kind, data_small, result_element}

jump_formed : (profile : Profile) (fp i c : ℕ) → well_formed (jump_made profile fp i c) ≡ true
unfolding decode_of
jump_formed flat fp i c = refl
jump_formed frames fp i c = refl

pub well_formed_lem : (profile : Profile) (d : Draws) (n i : ℕ) → well_formed (instruction_made profile d n i) ≡ true
unfolding decode_of
well_formed_lem profile d n i =
    let fp = frame_at profile d i in
    by_test (λ (x : Instruction). well_formed x ≡ true) (ltb i n)
    (λ t. by_kind (λ (k : Kind). well_formed (made profile fp i k (d.a i) (d.c i)) ≡ true) (d.kind i) (d.c i) refl refl refl
    (jump_formed profile fp i (d.c i))
    (rw (written (op_picked (d.c i)) (be_picked (d.c i)) (count_picked (d.c i)) (omega arith) (omega arith))))
    (λ t. refl)

-- a recipe's draws are in their ranges
pub drawable : (version seed : ℕ) → Drawable (draws_of version seed)
drawable version seed = record { cells = λ k h. mod-lt _ (lit< tt); a = λ i. mod-lt _ (lit< tt); c = λ i. mod-lt _ (lit< tt) }

jump_words : (profile : Profile) (fp i c : ℕ) → i ≤ 124 → AllBelow p (instruction_words (jump_made profile fp i c))
jump_words flat fp i c h = omega arith
jump_words frames fp i c h = omega (arith, difference_word (slot i) fp)

jump_cells_lem : (profile : Profile) (a : ℕ) → a < 32 → AllBelow p (jump_cells profile a)
jump_cells_lem flat a h = omega arith
jump_cells_lem frames a h = omega arith

module _ (profile : Profile) (d : Draws) (is : Drawable d) (n : ℕ) where
  pub program_words : n ≤ 124 → (i : ℕ) → i ≤ n → (k : ℕ) → IsWord (get_or (instruction_words (instruction_made profile d n i)) k 0)
  program_words most i h =
      let fp = frame_at profile d i in
      let a = difference_word (d.a i) fp in
      let c = difference_word (d.c i) fp in
      let t = difference_word (slot i) fp in
      each_below (instruction_words (instruction_made profile d n i))
      (by_test (λ (x : Instruction). AllBelow p (instruction_words x)) (ltb i n)
      (λ s. by_kind (λ (x : Kind). AllBelow p (instruction_words (made profile fp i x (d.a i) (d.c i)))) (d.kind i) (d.c i)
      (omega (arith, a, c, t)) (omega (arith, a, c, t)) (omega (arith, t, difference_word (slot i + 1) fp))
      (jump_words profile fp i (d.c i) (omega arith))
      (omega (arith, data_small (op_picked (d.c i)) (be_picked (d.c i)) (count_picked (d.c i)) (omega arith))))
      (λ s. omega arith))

  slot_words : (kind a c : ℕ) → a < 32 → (j : ℕ) → IsWord (get_or (slot_cells profile d.cell (kind_picked kind c) a c) j 0)
  slot_words kind a c h =
      by_kind (λ (k : Kind). (j : ℕ) → IsWord (get_or (slot_cells profile d.cell k a c) j 0)) kind c
      (each_below ((d.cell a +ₚ d.cell c) ∷ []) (sum_word _ _, lit< tt)) (each_below ((d.cell a *ₚ d.cell c) ∷ []) (product_word _ _, lit< tt))
      (each_below (a ∷ d.cell a ∷ []) (omega arith, (is.cells a h, lit< tt))) (each_below (jump_cells profile a) (jump_cells_lem profile a h))
      (λ j. (result_element d.cell (op_picked c) (be_picked c) (left_picked a) (right_picked a) 0 (count_picked c)).all_words j)

  pub cell_word : (k : ℕ) → IsWord (cell_of profile d n k)
  unfolding cell_of
  cell_word k =
      let i = (k - 32) / slot_size in
      by_test IsWord (ltb k 32) (λ t. is.cells k (ltb-true k 32 t))
      (λ t. by_test IsWord (ltb i n) (λ s. slot_words (d.kind i) (d.a i) (d.c i) (is.a i) ((k - 32) % slot_size)) (λ s. lit< tt))
