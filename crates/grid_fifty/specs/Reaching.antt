-- Document 02, M-100: for each counter a program that reaches its form, over a memory of zeros.
-- Declared in src/: Kind, Mode (form).
use Rattle.std.specs.Prelude.{ℕ, zero, suc, ◌/◌, ◌%◌, List, [], ◌∷◌, ◌++◌, replicate}
use Rattle.form.specs.Data.{bit, data_word}
use Rattle.form.specs.declared.Kind.{Kind}
use Rattle.form.specs.declared.Kind.TheVariants.{Add, Mul, Deref, Jump, Extension}
use Rattle.form.specs.declared.Mode.{Mode}
use Rattle.rows.specs.Rows.{bytes_of_words}
use Rattle.machine.specs.Machine.{State}
use Rattle.run.specs.Runs.{Input}
use Rattle.grid_spec.specs.Possible.{is_immediate, is_frame, kind_at, mode_at}

-- MUL, JUMP, AUX and DATA of a kind
abbrev pub opcode_words : Kind → List ℕ
opcode_words Add = 0 ∷ 0 ∷ 1 ∷ 0 ∷ []
opcode_words Mul = 1 ∷ 0 ∷ 0 ∷ 0 ∷ []
opcode_words Deref = 0 ∷ 0 ∷ 2 ∷ 0 ∷ []
opcode_words Jump = 0 ∷ 1 ∷ 0 ∷ 0 ∷ []
opcode_words (Extension op be n) = 0 ∷ 0 ∷ 0 ∷ data_word op be n ∷ []

-- instruction 0: a kind and three modes, all operands 0
abbrev pub form_words : Kind → Mode → Mode → Mode → List ℕ
form_words kind a b c =
    0 ∷ 0 ∷ 0
    ∷ bit (is_immediate a) ∷ bit (is_immediate b) ∷ bit (is_immediate c) ∷ bit (is_frame c) ∷ bit (is_frame a)
    ∷ opcode_words kind

-- instruction 1: a jump on 1, to 1 and with the frame fp + 0, so that it stays
abbrev pub self_jump : List ℕ
self_jump = 1 ∷ 1 ∷ 0 ∷ 1 ∷ 1 ∷ 0 ∷ 1 ∷ 0 ∷ 0 ∷ 1 ∷ 0 ∷ 0 ∷ []

-- an instruction of counter k's form, and the jump that stays
unfoldable pub program_for : ℕ → List ℕ
program_for k =
    bytes_of_words (form_words (kind_at (k / 27)) (mode_at (k / 9 % 3)) (mode_at (k / 3 % 3)) (mode_at (k % 3)) ++ self_jump)

-- 256 cells, all 0
abbrev pub zeros : List ℕ
zeros = replicate 1024 0

-- the program of counter k over it, from pc 0 and fp 0
abbrev pub reaching : ℕ → Input
reaching k = record { program = program_for k; memory = zeros; pc = 0; fp = 0 }

-- its run: instruction 0 once, and instruction 1 from then on
abbrev pub state_for : ℕ → State
state_for zero = record { pc = 0; fp = 0 }
state_for (suc r) = record { pc = 1; fp = 0 }
