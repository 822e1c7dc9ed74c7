-- Document 02, M-105: one instruction is one LF-ended line of key=value fields separated by single spaces, in fixed
-- order: op=, a=, b=, c=, and for extension be= and n=. Texts are given as their bytes, in ASCII.
-- Declared in src/: Op, Mode, Operand, Kind, Form (form).
use Rattle.std.specs.Prelude.{ℕ, ◌*◌, ◌/◌, List, [], ◌∷◌, ◌++◌, length, Option, Some, None}
use Rattle.word.specs.Bytes.{concatenated}
use Rattle.lines.specs.Line.{decimal}
use Rattle.form.specs.Data.{bit}
use Rattle.form.specs.Form.{decode_of}
use Rattle.form.specs.Instruction.{instruction_at}
use Rattle.form.specs.declared.Op.TheVariants as op
use Rattle.form.specs.declared.Mode.{Mode}
use Rattle.form.specs.declared.Mode.TheVariants.{Immediate, Cell, Frame}
use Rattle.form.specs.declared.Operand.{Operand}
use Rattle.form.specs.declared.Kind.{Kind}
use Rattle.form.specs.declared.Kind.TheVariants.{Add, Mul, Deref, Jump, Extension}
use Rattle.form.specs.declared.Form.{Form}

-- add, mul, deref, jump, xadd, xmul, xpeq
abbrev pub op_text : Kind → List ℕ
op_text Add = 97 ∷ 100 ∷ 100 ∷ []
op_text Mul = 109 ∷ 117 ∷ 108 ∷ []
op_text Deref = 100 ∷ 101 ∷ 114 ∷ 101 ∷ 102 ∷ []
op_text Jump = 106 ∷ 117 ∷ 109 ∷ 112 ∷ []
op_text (Extension op.Add be n) = 120 ∷ 97 ∷ 100 ∷ 100 ∷ []
op_text (Extension op.Mul be n) = 120 ∷ 109 ∷ 117 ∷ 108 ∷ []
op_text (Extension op.Peq be n) = 120 ∷ 112 ∷ 101 ∷ 113 ∷ []

-- imm:, cell:, fp:
abbrev pub mode_name : Mode → List ℕ
mode_name Immediate = 105 ∷ 109 ∷ 109 ∷ 58 ∷ []
mode_name Cell = 99 ∷ 101 ∷ 108 ∷ 108 ∷ 58 ∷ []
mode_name Frame = 102 ∷ 112 ∷ 58 ∷ []

-- op=, and behind a space a=, b=, c=, be=, n=
abbrev pub op_key : List ℕ
op_key = 111 ∷ 112 ∷ 61 ∷ []

abbrev pub a_key : List ℕ
a_key = 32 ∷ 97 ∷ 61 ∷ []

abbrev pub b_key : List ℕ
b_key = 32 ∷ 98 ∷ 61 ∷ []

abbrev pub c_key : List ℕ
c_key = 32 ∷ 99 ∷ 61 ∷ []

abbrev pub be_key : List ℕ
be_key = 32 ∷ 98 ∷ 101 ∷ 61 ∷ []

abbrev pub n_key : List ℕ
n_key = 32 ∷ 110 ∷ 61 ∷ []

-- an operand is its mode and its word in decimal
abbrev pub operand_text : Operand → List ℕ
operand_text o = mode_name o.mode ++ decimal o.word

-- be= and n=, for extension
abbrev pub call_text : Kind → List ℕ
call_text (Extension op be n) = be_key ++ decimal (bit be) ++ n_key ++ decimal n
call_text Add = []
call_text Mul = []
call_text Deref = []
call_text Jump = []

-- the line of an instruction's form
unfoldable pub form_line : Form → List ℕ
form_line f =
    op_key ++ op_text f.kind
    ++ a_key ++ operand_text f.a
    ++ b_key ++ operand_text f.b
    ++ c_key ++ operand_text f.c
    ++ call_text f.kind
    ++ (10 ∷ [])

-- a malformed instruction has none
abbrev pub decoded_line : Option Form → List ℕ
decoded_line None = []
decoded_line (Some f) = form_line f

-- the line of instruction i of a program's bytes
abbrev pub instruction_line : List ℕ → ℕ → List ℕ
instruction_line program i = decoded_line (decode_of (instruction_at program (48 * i)))

-- the listing of a program: its instructions' lines, one after the other
unfoldable pub listing_of : List ℕ → List ℕ
listing_of program = concatenated (instruction_line program) (length program / 48)
