-- Document 01, "Well-formed instructions", and what a well-formed one is: one of five kinds, with three operands.
-- Declared in src/: Instruction, Mode, Operand, Kind, Form (here).
use Rattle.std.specs.Prelude.{ℕ, Bool, true, false, cond, ◌&&◌, ◌||◌, leb, eqb, Option, Some, None}
use Rattle.form.specs.Data.{Call, None as NoCall, Of, read_data}
use Rattle.form.specs.declared.Instruction.{Instruction}
use Rattle.form.specs.declared.Mode.TheVariants.{Immediate, Cell, Frame}
use Rattle.form.specs.declared.Operand.{Operand}
use Rattle.form.specs.declared.Kind.{Kind}
use Rattle.form.specs.declared.Kind.TheVariants.{Add, Mul, Deref, Jump, Extension}
use Rattle.form.specs.declared.Form.{Form}

abbrev pub flag : ℕ → Bool
flag x = leb x 1

-- flags are 0 or 1; fA and fpAB are never both 1, nor fB and fpAB, nor fC and fpC
abbrev pub flags_fit : Instruction → Bool
flags_fit i =
    flag i.fa && flag i.fb && flag i.fc && flag i.fpc && flag i.fpab
    && (eqb i.fa 0 || eqb i.fpab 0)
    && (eqb i.fb 0 || eqb i.fpab 0)
    && (eqb i.fc 0 || eqb i.fpc 0)

-- the three opcode words
abbrev pub opcode : Instruction → ℕ → ℕ → ℕ → Bool
opcode i mul jump aux = eqb i.mul mul && eqb i.jump jump && eqb i.aux aux

-- no call, and no operand A or B that is fp + offset
abbrev pub plain : Instruction → Bool
plain i = eqb i.fpab 0 && eqb i.«data» 0

abbrev pub is_add : Instruction → Bool
is_add i = opcode i 0 0 1 && plain i

abbrev pub is_mul : Instruction → Bool
is_mul i = opcode i 1 0 0 && plain i

abbrev pub is_deref : Instruction → Bool
is_deref i = opcode i 0 0 2 && plain i && eqb i.fa 0 && eqb i.fb 1

abbrev pub is_jump : Instruction → Bool
is_jump i = opcode i 0 1 0 && plain i && eqb i.fc 0

-- an operand is an immediate where its flag is 1, fp + offset where its fp flag is, and else the cell at fp + offset
abbrev pub operand_of : ℕ → ℕ → ℕ → Operand
operand_of flag fp word = record { mode = cond (eqb flag 1) Immediate (cond (eqb fp 1) Frame Cell); word = word }

abbrev pub form_of : Instruction → Kind → Option Form
form_of i kind =
    Some
    (record {
      kind = kind;
      a = operand_of i.fa i.fpab i.a;
      b = operand_of i.fb i.fpab i.b;
      c = operand_of i.fc i.fpc i.c;
    })

abbrev pub extension_of : Instruction → Call → Option Form
extension_of i NoCall = None
extension_of i (Of op be n) = form_of i (Extension op be n)

-- an instruction whose flags fit, by its kind
abbrev pub by_kind : Instruction → Option Form
by_kind i =
    cond (is_add i) (form_of i Add)
    (cond (is_mul i) (form_of i Mul)
    (cond (is_deref i) (form_of i Deref)
    (cond (is_jump i) (form_of i Jump)
    (cond (opcode i 0 0 0) (extension_of i (read_data i.«data»))
    None))))

-- the form of an instruction; a malformed one has none
unfoldable pub decode_of : Instruction → Option Form
decode_of i = cond (flags_fit i) (by_kind i) None

abbrev pub is_well : Option Form → Bool
is_well None = false
is_well (Some f) = true

-- an instruction is well-formed where it has a form
abbrev pub well_formed : Instruction → Bool
well_formed i = is_well (decode_of i)
