-- Document 01, "Layouts" and "Well-formed instructions": the machine of a program's and a memory's bytes.
-- Declared in src/: Instruction, Kind, Form, Operand, Mode (form).
use Rattle.std.specs.Prelude.{ℕ, ◌*◌, ◌/◌, List, length, Option, Some, None}
use Rattle.word.specs.Bytes.{word_at}
use Rattle.form.specs.Form.{decode_of}
use Rattle.form.specs.Instruction.{instruction_at}
use Rattle.form.specs.declared.Instruction.{Instruction}
use Rattle.form.specs.declared.Kind.TheVariants.{Jump}
use Rattle.form.specs.declared.Form.{Form}
use Rattle.form.specs.declared.Operand.{Operand}
use Rattle.form.specs.declared.Mode.TheVariants.{Immediate}
use Rattle.machine.specs.Machine.{Machine}

-- a malformed instruction has no form, and no program with one is run; a jump stands for it here
abbrev pub immediate : ℕ → Operand
immediate x = record { mode = Immediate; word = x }

abbrev pub form_in : Option Form → Form
form_in (Some f) = f
form_in None = record { kind = Jump; a = immediate 0; b = immediate 0; c = immediate 0 }

-- the machine of numbered instructions and cells
abbrev pub loaded : ℕ → (ℕ → Instruction) → ℕ → (ℕ → ℕ) → Machine
loaded count instruction size cell = record { count = count; form = λ i. form_in (decode_of (instruction i)); size = size; cell = cell }

-- instructions of 48 bytes, and cells of 4
abbrev pub machine_of : List ℕ → List ℕ → Machine
machine_of program memory =
    loaded (length program / 48) (λ i. instruction_at program (48 * i)) (length memory / 4) (λ k. word_at memory (4 * k))
