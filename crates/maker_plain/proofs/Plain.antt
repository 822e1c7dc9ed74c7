-- What every recipe makes is what it made before there were profiles, byte for byte.
-- Assumes nothing.
use mathlib.Core.Path.{◌≡◌, refl, ap}
use mathlib.Core.Bool.{Bool, true, false, cond}
use Prim.Native.Nat.{ℕ, ◌+◌, ◌-◌, ◌/◌, ◌^◌, ◌≤◌, ◌<◌}
use native.Mathlib.Omega.{arith}
use borrow.Author.Tests.{ltb-true}
use lib.Dec.{ltb}
use Rattle.word.specs.Bytes.{bytes_of}
use Rattle.word.proofs.WordLaws.{difference_zero}
use Rattle.word.proofs.Concatenated.{parts_same}
use Rattle.form.specs.Instruction.{instruction_words}
use Rattle.form.specs.declared.Instruction.{Instruction}
use Rattle.form.specs.declared.Kind.{Kind}
use Rattle.label.specs.Label.{ranged}
use Rattle.label.specs.declared.Recipe.{Recipe}
use Rattle.label.proofs.Range.{n_high}
use Rattle.maker_draws.specs.Drawn.{Draws}
use Rattle.maker_spec.specs.Made.{Drawable, flat, slot, kind_picked, made, slot_cells, halt, instruction_made, cell_of}
use Rattle.maker_spec.specs.Bytes.{word_bytes, recipe_draws, program_of, memory_of}
use Rattle.maker_plain.specs.Plain.{plain_made, plain_cells, plain_instruction, plain_cell, plain_program, plain_memory}
use Rattle.maker_law.proofs.Making.{by_kind}
use Rattle.maker_law.proofs.Frames.{frame_flat}
use Rattle.maker_law.proofs.WellFormed.{drawable}

where_true : {A : Type 0} {x y : A} (b : Bool) (z : A) → (b ≡ true → x ≡ y) → cond b x z ≡ cond b y z
where_true true z e = e refl
where_true false z e = refl

-- from frame 0 an offset is the cell's number
made_plain : (i kind a c : ℕ) → i ≤ 124 → a < 32 → c < 32 → made flat 0 i (kind_picked kind c) a c ≡ plain_made i (kind_picked kind c) a c
made_plain i kind a c most ha hc =
    let a₀ = difference_zero a (omega arith) in
    let c₀ = difference_zero c (omega arith) in
    let t₀ = difference_zero (slot i) (omega arith) in
    by_kind (λ (k : Kind). made flat 0 i k a c ≡ plain_made i k a c) kind c (rw (a₀, c₀, t₀)) (rw (a₀, c₀, t₀))
    (rw (t₀, difference_zero (slot i + 1) (omega arith))) refl refl

cells_plain : (cell : ℕ → ℕ) (kind a c : ℕ) → slot_cells flat cell (kind_picked kind c) a c ≡ plain_cells cell (kind_picked kind c) a c
cells_plain cell kind a c = by_kind (λ (k : Kind). slot_cells flat cell k a c ≡ plain_cells cell k a c) kind c refl refl refl refl refl

module _ (d : Draws) (is : Drawable d) (n : ℕ) (most : n ≤ 124) where
  pub instruction_plain : (i : ℕ) → instruction_made flat d n i ≡ plain_instruction d n i
  instruction_plain i =
      rw (frame_flat d i) (where_true (ltb i n) (halt n) (λ t. made_plain i (d.kind i) (d.a i) (d.c i) (omega (arith, ltb-true i n t)) (is.a i) (is.c i)))

  pub cell_plain : (k : ℕ) → cell_of flat d n k ≡ plain_cell d n k
  unfolding cell_of plain_cell
  cell_plain k = let i = (k - 32) / 8 in rw (cells_plain d.cell (d.kind i) (d.a i) (d.c i))

pub recipe_plain : (r : Recipe) → ranged r ≡ true
    → (program_of r ≡ plain_program (recipe_draws r) r.n (r.n + 1)) × (memory_of r ≡ plain_memory (recipe_draws r) r.n (2 ^ r.m))
recipe_plain r inside =
    let is = drawable r.version r.seed in (
      parts_same _ _ (r.n + 1) (λ i h. ap (λ (x : Instruction). word_bytes (instruction_words x)) (instruction_plain (recipe_draws r) is r.n (n_high r inside) i)),
      parts_same _ _ (2 ^ r.m) (λ k h. ap bytes_of (cell_plain (recipe_draws r) is r.n (n_high r inside) k)),
    )
