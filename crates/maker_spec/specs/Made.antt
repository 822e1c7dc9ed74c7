-- Document 01, "Draws, recipe, label", and document 02, M-111: what draws make in either profile: each instruction, in
-- the frame that the run has there, and every cell. What is unnamed is 0.
-- Declared in src/: Instruction, Kind, Op (form).
use Rattle.std.specs.Prelude.{Bool, cond, List, [], ◌∷◌, ℕ, zero, suc, ◌+◌, ◌-◌, ◌*◌, ◌/◌, ◌%◌, ◌<◌, ltb, eqb, get_or}
use Rattle.word.specs.Word.{IsWord, ◌+ₚ◌, ◌-ₚ◌, ◌*ₚ◌}
use Rattle.form.specs.Data.{data_word}
use Rattle.form.specs.declared.Instruction.{Instruction}
use Rattle.form.specs.declared.Kind.{Kind}
use Rattle.form.specs.declared.Kind.TheVariants.{Add, Mul, Deref, Jump, Extension}
use Rattle.form.specs.declared.Op.{Op}
use Rattle.form.specs.declared.Op.TheVariants as op
use Rattle.machine.specs.Extension.{extension_result}
use Rattle.maker_draws.specs.Drawn.{Draws}

-- draws in their ranges: 32 words, a and c below 32
pub record Drawable (d : Draws) : Type 0 where
  pub cells : (k : ℕ) → k < 32 → IsWord (d.cell k)
  pub a : (i : ℕ) → d.a i < 32
  pub c : (i : ℕ) → d.c i < 32

-- flat: fp is 0 throughout. frames: a taken jump changes it
pub data Profile : Type 0 where
  flat : Profile
  frames : Profile

-- T: each instruction has a slot of eight cells, behind the drawn ones
abbrev pub slot_size : ℕ
slot_size = 8

abbrev pub slot : ℕ → ℕ
slot i = 32 + slot_size * i

-- an extension, from its draw c: floor(c/2) mod 3 picks add, mul, peq; be = floor(c/6) mod 2; N = 1 + c mod 2
abbrev pub op_picked : ℕ → Op
op_picked c = cond (eqb (c / 2 % 3) 0) op.Add (cond (eqb (c / 2 % 3) 1) op.Mul op.Peq)

abbrev pub be_picked : ℕ → Bool
be_picked c = eqb (c / 6 % 2) 1

abbrev pub count_picked : ℕ → ℕ
count_picked c = 1 + c % 2

-- and from its draw a: A = a mod 16, B = 16 + a mod 4
abbrev pub left_picked : ℕ → ℕ
left_picked a = a % 16

abbrev pub right_picked : ℕ → ℕ
right_picked a = 16 + a % 4

-- 0 ADD, 1 MUL, 2 DEREF, 3 JUMP, 4 extension
abbrev pub kind_picked : ℕ → ℕ → Kind
kind_picked kind c =
    cond (eqb kind 0) Add
    (cond (eqb kind 1) Mul
    (cond (eqb kind 2) Deref
    (cond (eqb kind 3) Jump
    (Extension (op_picked c) (be_picked c) (count_picked c)))))

-- immediate condition and dest, frame fp + 0
abbrev pub jump_to : ℕ → ℕ → Instruction
jump_to condition dest =
    record { jump = 1; fa = 1; a = condition; fb = 1; b = dest; fpc = 1; c = 0; fc = 0; fpab = 0; mul = 0; aux = 0; «data» = 0 }

-- the last instruction, n, jumps to itself: condition 1, dest n
abbrev pub halt : ℕ → Instruction
halt n = jump_to 1 n

-- a jump with its new frame from the cell at an offset
abbrev pub jump_into : ℕ → ℕ → ℕ → Instruction
jump_into condition dest offset =
    record { jump = 1; fa = 1; a = condition; fb = 1; b = dest; c = offset; fc = 0; fpc = 0; fpab = 0; mul = 0; aux = 0; «data» = 0 }

-- JUMP: condition c modulo 2, dest i + 1; in frames the new frame from cell T
abbrev pub jump_made : Profile → ℕ → ℕ → ℕ → Instruction
jump_made flat fp i c = jump_to (c % 2) (i + 1)
jump_made frames fp i c = jump_into (c % 2) (i + 1) (slot i -ₚ fp)

-- instruction i in frame fp; each cell's offset is its number minus fp
-- ADD, MUL: cells a and c into cell T. DEREF: α is cell T, β = 0, C reads cell T + 1
-- extension, all immediate: A and B as picked, C = T
abbrev pub made : Profile → ℕ → ℕ → Kind → ℕ → ℕ → Instruction
made profile fp i Add a c =
    record { aux = 1; a = a -ₚ fp; b = slot i -ₚ fp; c = c -ₚ fp; fa = 0; fb = 0; fc = 0; fpc = 0; fpab = 0; mul = 0; jump = 0; «data» = 0 }
made profile fp i Mul a c =
    record { mul = 1; a = a -ₚ fp; b = slot i -ₚ fp; c = c -ₚ fp; fa = 0; fb = 0; fc = 0; fpc = 0; fpab = 0; jump = 0; aux = 0; «data» = 0 }
made profile fp i Deref a c =
    record { aux = 2; a = slot i -ₚ fp; fb = 1; b = 0; c = (slot i + 1) -ₚ fp; fa = 0; fc = 0; fpc = 0; fpab = 0; mul = 0; jump = 0; «data» = 0 }
made profile fp i Jump a c = jump_made profile fp i c
made profile fp i (Extension op be n) a c =
    record { «data» = data_word op be n; fa = 1; a = left_picked a; fb = 1; b = right_picked a; fc = 1; c = slot i; fpc = 0; fpab = 0; mul = 0; jump = 0; aux = 0 }

-- a jump is taken where its condition is 1
abbrev pub jump_taken : ℕ → Bool
jump_taken c = eqb (c % 2) 1

-- the frame after an instruction: in frames a taken jump's is a, which cell T holds
abbrev pub jump_frame : Profile → ℕ → ℕ → ℕ → ℕ
jump_frame flat a c fp = fp
jump_frame frames a c fp = cond (jump_taken c) a fp

abbrev pub frame_after : Profile → Kind → ℕ → ℕ → ℕ → ℕ
frame_after profile Add a c fp = fp
frame_after profile Mul a c fp = fp
frame_after profile Deref a c fp = fp
frame_after profile Jump a c fp = jump_frame profile a c fp
frame_after profile (Extension op be n) a c fp = fp

-- the cells from T on: ADD and MUL give cell T, DEREF cells T and T + 1, JUMP in frames cell T, taken or not, and an
-- extension five
abbrev pub jump_cells : Profile → ℕ → List ℕ
jump_cells flat a = []
jump_cells frames a = a ∷ []

abbrev pub slot_cells : Profile → (ℕ → ℕ) → Kind → ℕ → ℕ → List ℕ
slot_cells profile cell Add a c = (cell a +ₚ cell c) ∷ []
slot_cells profile cell Mul a c = (cell a *ₚ cell c) ∷ []
slot_cells profile cell Deref a c = a ∷ cell a ∷ []
slot_cells profile cell Jump a c = jump_cells profile a
slot_cells profile cell (Extension op be n) a c = extension_result cell op be (left_picked a) (right_picked a) 0 n

-- the kind of instruction i
abbrev pub kind_drawn : Draws → ℕ → Kind
kind_drawn d i = kind_picked (d.kind i) (d.c i)

module _ (profile : Profile) (d : Draws) where
  -- the frame before instruction i
  unfoldable pub frame_at : ℕ → ℕ
  frame_at zero = 0
  frame_at (suc i) = frame_after profile (kind_drawn d i) (d.a i) (d.c i) (frame_at i)

  -- n that are drawn, and the halt
  abbrev pub instruction_made : ℕ → ℕ → Instruction
  instruction_made n i = cond (ltb i n) (made profile (frame_at i) i (kind_drawn d i) (d.a i) (d.c i)) (halt n)

  -- cell j of slot i
  abbrev pub slot_cell : ℕ → ℕ → ℕ
  slot_cell i j = get_or (slot_cells profile d.cell (kind_drawn d i) (d.a i) (d.c i)) j 0

  -- the drawn cells, the slots, and 0 elsewhere
  unfoldable pub cell_of : ℕ → ℕ → ℕ
  cell_of n k =
      cond (ltb k 32) (d.cell k) (cond (ltb ((k - 32) / slot_size) n) (slot_cell ((k - 32) / slot_size) ((k - 32) % slot_size)) 0)
