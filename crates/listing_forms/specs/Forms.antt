-- Inner: the forms that a line can have, and the instruction and the bytes of each.
-- Declared in src/: Instruction, Mode, Kind, Form (form); Span (here).
use Rattle.std.specs.Prelude.{ℕ, ◌-◌, ◌^◌, ◌≤◌, List}
use Rattle.word.specs.Word.{p}
use Rattle.form.specs.Data.{data_word}
use Rattle.form.specs.Instruction.{instruction_words}
use Rattle.form.specs.declared.Instruction.{Instruction}
use Rattle.form.specs.declared.Mode.{Mode}
use Rattle.form.specs.declared.Mode.TheVariants.{Immediate, Cell, Frame}
use Rattle.form.specs.declared.Kind.{Kind}
use Rattle.form.specs.declared.Kind.TheVariants.{Add, Mul, Deref, Jump, Extension}
use Rattle.form.specs.declared.Form.{Form}
use Rattle.rows.specs.Rows.{bytes_of_words}
use Rattle.text_patterns.specs.Pattern.{flat}
use Rattle.listing_forms.specs.Ranges.{kind_number, mode_number, a_range, b_range, c_range}
use Rattle.listing_forms.specs.declared.Span.{Span}

-- the greatest word
abbrev pub greatest : ℕ
greatest = p - 1

abbrev pub InRange : Span → Mode → Type 0
InRange r m = (r.low ≤ mode_number m) × (mode_number m ≤ r.high)

-- a call is on 1 to 2^20 elements
abbrev pub CallFits : Kind → Type 0
CallFits (Extension op be n) = (1 ≤ n) × (n ≤ 2 ^ 20)
CallFits Add = Unit {0}
CallFits Mul = Unit {0}
CallFits Deref = Unit {0}
CallFits Jump = Unit {0}

-- what a line can say
pub record Listable (f : Form) : Type 0 where
  pub a_mode : InRange (a_range (kind_number f.kind)) f.a.mode
  pub a_word : f.a.word ≤ greatest
  pub b_mode : InRange (b_range (kind_number f.kind) (mode_number f.a.mode)) f.b.mode
  pub b_word : f.b.word ≤ greatest
  pub c_mode : InRange (c_range (kind_number f.kind)) f.c.mode
  pub c_word : f.c.word ≤ greatest
  pub call : CallFits f.kind

-- the flag of an immediate, and of an operand that is fp + offset
abbrev pub immediate_flag : Mode → ℕ
immediate_flag Immediate = 1
immediate_flag Cell = 0
immediate_flag Frame = 0

abbrev pub frame_flag : Mode → ℕ
frame_flag Immediate = 0
frame_flag Cell = 0
frame_flag Frame = 1

-- a kind's opcode words MUL, JUMP, AUX, and its DATA
abbrev pub mul_word : Kind → ℕ
mul_word Mul = 1
mul_word Add = 0
mul_word Deref = 0
mul_word Jump = 0
mul_word (Extension op be n) = 0

abbrev pub jump_word : Kind → ℕ
jump_word Jump = 1
jump_word Add = 0
jump_word Mul = 0
jump_word Deref = 0
jump_word (Extension op be n) = 0

abbrev pub aux_word : Kind → ℕ
aux_word Add = 1
aux_word Deref = 2
aux_word Mul = 0
aux_word Jump = 0
aux_word (Extension op be n) = 0

abbrev pub call_word : Kind → ℕ
call_word (Extension op be n) = data_word op be n
call_word Add = 0
call_word Mul = 0
call_word Deref = 0
call_word Jump = 0

-- the instruction of a form; A and B share one fp flag
unfoldable pub form_instruction : Form → Instruction
form_instruction f =
    record {
      a = f.a.word;
      b = f.b.word;
      c = f.c.word;
      fa = immediate_flag f.a.mode;
      fb = immediate_flag f.b.mode;
      fc = immediate_flag f.c.mode;
      fpc = frame_flag f.c.mode;
      fpab = frame_flag f.a.mode;
      mul = mul_word f.kind;
      jump = jump_word f.kind;
      aux = aux_word f.kind;
      «data» = call_word f.kind;
    }

-- its 48 bytes, and the program of some forms
abbrev pub form_bytes : Form → List ℕ
form_bytes f = bytes_of_words (instruction_words (form_instruction f))

abbrev pub program_of : List Form → List ℕ
program_of forms = flat form_bytes forms
