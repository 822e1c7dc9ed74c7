-- Document 01, "Draws, recipe, label", as it was before there were profiles: fp is 0 throughout, so an offset is the
-- cell's number. What is unnamed is 0.
-- Declared in src/: Instruction, Kind (form).
use Rattle.std.specs.Prelude.{cond, List, [], ◌∷◌, ℕ, ◌+◌, ◌-◌, ◌*◌, ◌/◌, ◌%◌, ltb, get_or}
use Rattle.word.specs.Word.{◌+ₚ◌, ◌*ₚ◌}
use Rattle.word.specs.Bytes.{bytes_of, concatenated}
use Rattle.form.specs.Data.{data_word}
use Rattle.form.specs.Instruction.{instruction_words}
use Rattle.form.specs.declared.Instruction.{Instruction}
use Rattle.form.specs.declared.Kind.{Kind}
use Rattle.form.specs.declared.Kind.TheVariants.{Add, Mul, Deref, Jump, Extension}
use Rattle.machine.specs.Extension.{extension_result}
use Rattle.maker_draws.specs.Drawn.{Draws}
use Rattle.maker_spec.specs.Made.{kind_picked, jump_to}
use Rattle.maker_spec.specs.Bytes.{word_bytes}

-- T = 32 + 8i. ADD, MUL: cells a and c into cell T. DEREF: α = T, β = 0, C reads cell T + 1
-- JUMP: condition c modulo 2, dest i + 1. Extension, all immediate: A = a mod 16, B = 16 + a mod 4, C = T
abbrev pub plain_made : ℕ → Kind → ℕ → ℕ → Instruction
plain_made i Add a c =
    record { aux = 1; a = a; b = 32 + 8 * i; c = c; fa = 0; fb = 0; fc = 0; fpc = 0; fpab = 0; mul = 0; jump = 0; «data» = 0 }
plain_made i Mul a c =
    record { mul = 1; a = a; b = 32 + 8 * i; c = c; fa = 0; fb = 0; fc = 0; fpc = 0; fpab = 0; jump = 0; aux = 0; «data» = 0 }
plain_made i Deref a c =
    record { aux = 2; a = 32 + 8 * i; fb = 1; b = 0; c = 32 + 8 * i + 1; fa = 0; fc = 0; fpc = 0; fpab = 0; mul = 0; jump = 0; «data» = 0 }
plain_made i Jump a c = jump_to (c % 2) (i + 1)
plain_made i (Extension op be n) a c =
    record { «data» = data_word op be n; fa = 1; a = a % 16; fb = 1; b = 16 + a % 4; fc = 1; c = 32 + 8 * i; fpc = 0; fpab = 0; mul = 0; jump = 0; aux = 0 }

-- the cells from T on: ADD and MUL give cell T, DEREF cells T and T + 1, an extension five
abbrev pub plain_cells : (ℕ → ℕ) → Kind → ℕ → ℕ → List ℕ
plain_cells cell Add a c = (cell a +ₚ cell c) ∷ []
plain_cells cell Mul a c = (cell a *ₚ cell c) ∷ []
plain_cells cell Deref a c = a ∷ cell a ∷ []
plain_cells cell Jump a c = []
plain_cells cell (Extension op be n) a c = extension_result cell op be (a % 16) (16 + a % 4) 0 n

module _ (d : Draws) (n : ℕ) where
  -- instruction n jumps to itself: condition 1, dest n
  abbrev pub plain_instruction : ℕ → Instruction
  plain_instruction i = cond (ltb i n) (plain_made i (kind_picked (d.kind i) (d.c i)) (d.a i) (d.c i)) (jump_to 1 n)

  -- the drawn cells, the slots, and 0 elsewhere
  unfoldable pub plain_cell : ℕ → ℕ
  plain_cell k =
      let i = (k - 32) / 8 in
      cond (ltb k 32) (d.cell k)
      (cond (ltb i n) (get_or (plain_cells d.cell (kind_picked (d.kind i) (d.c i)) (d.a i) (d.c i)) ((k - 32) % 8) 0) 0)

  -- the first k instructions and cells, as bytes
  abbrev pub plain_program : ℕ → List ℕ
  plain_program k = concatenated (λ i. word_bytes (instruction_words (plain_instruction i))) k

  abbrev pub plain_memory : ℕ → List ℕ
  plain_memory k = concatenated (λ j. bytes_of (plain_cell j)) k
