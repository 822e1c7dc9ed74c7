-- A form's instruction decodes to it, and is the only one of words that does.
-- Assumes nothing.
use mathlib.Core.Path.{◌≡◌, refl, sym, ◌∙◌}
use mathlib.Core.Bool.{true, cond, ◌||◌}
use mathlib.Core.Logic.{◌↔◌}
use Prim.Native.Nat.{ℕ, zero, suc, ◌+◌, ◌≤◌, ◌<◌}
use native.Mathlib.Omega.{arith}
use lib.Dec.{eqb, lit≤, lit<}
use lib.ListN.{get_or}
use borrow.Author.Tests.{le-leb, eq-eqb, ne_eqb}
use Rattle.word.specs.Word.{p}
use Rattle.word.proofs.Below.{each_below}
use Rattle.form.specs.Form.{flags_fit, operand_of, decode_of}
use Rattle.form.specs.Instruction.{instruction_words}
use Rattle.form.specs.declared.Instruction.{Instruction}
use Rattle.form.specs.declared.Mode.{Mode}
use Rattle.form.specs.declared.Mode.TheVariants.{Immediate, Cell, Frame}
use Rattle.form.specs.declared.Operand.{Operand}
use Rattle.form.specs.declared.Kind.{Kind}
use Rattle.form.specs.declared.Kind.TheVariants.{Add, Mul, Deref, Jump, Extension}
use Rattle.form.specs.declared.Form.{Form}
use Rattle.std.specs.Prelude.{Some}
use Rattle.form.proofs.DataLaws.{parts, written, reads}
use Rattle.form.proofs.Forms.{Flags, Opcode, Plain, Words, Formed, formed_of, decodes as kind-decodes}
use Rattle.listing_forms.specs.Ranges.{kind_number, mode_number, range, a_range, b_range, c_range}
use Rattle.listing_forms.specs.Forms.{InRange, CallFits, Listable, immediate_flag, frame_flag, mul_word, jump_word, aux_word, call_word, form_instruction}

-- DATA is below 32·(N + 1)
pub call_below : (k : Kind) → CallFits k → call_word k < p
call_below (Extension op be n) fits = omega (arith, (parts op be n).0)
call_below Add fits = lit< tt
call_below Mul fits = lit< tt
call_below Deref fits = lit< tt
call_below Jump fits = lit< tt

opcode_small : (k : Kind) → mul_word k + jump_word k + aux_word k ≤ 2
opcode_small (Extension op be n) = lit≤ tt
opcode_small Add = lit≤ tt
opcode_small Mul = lit≤ tt
opcode_small Deref = lit≤ tt
opcode_small Jump = lit≤ tt

-- a mode's number by its flags, of which one at most is 1
record Flagged (m : Mode) : Type 0 where
  one : immediate_flag m + frame_flag m ≤ 1
  number : mode_number m + immediate_flag m ≡ 1 + frame_flag m

flagged : (m : Mode) → Flagged m
flagged Immediate = record { one = lit≤ tt; number = refl }
flagged Cell = record { one = lit≤ tt; number = refl }
flagged Frame = record { one = lit≤ tt; number = refl }

-- b is fp-relative exactly where a is
follows : (a b : Mode) → InRange (cond (eqb (mode_number a) 2) (range 2 2) (range 0 1)) b ↔ (frame_flag b ≡ frame_flag a)
follows Immediate b = (λ r. omega (arith, flagged b), λ e. omega (arith, flagged b))
follows Cell b = (λ r. omega (arith, flagged b), λ e. omega (arith, flagged b))
follows Frame b = (λ r. omega (arith, flagged b), λ e. omega (arith, flagged b))

-- the flags of two that exclude each other pass the test
apart : (x y : ℕ) → x + y ≤ 1 → eqb x 0 || eqb y 0 ≡ true
apart zero y h = refl
apart (suc x) y h = rw (ne_eqb (suc x) 0 (λ e. omega arith), eq-eqb y 0 (omega arith))

flags_fit_lem : (i : Instruction) → Flags i → flags_fit i ≡ true
flags_fit_lem i f =
    rw (
      le-leb i.fa 1 (omega arith),
      le-leb i.fb 1 (omega arith),
      le-leb i.fc 1 (omega arith),
      le-leb i.fpc 1 (omega arith),
      le-leb i.fpab 1 (omega arith),
      apart i.fa i.fpab f.a,
      apart i.fb i.fpab f.b,
      apart i.fc i.fpc f.c,
    )

-- an operand is read from its mode's flags
operand_back : (o : Operand) → operand_of (immediate_flag o.mode) (frame_flag o.mode) o.word ≡ o
operand_back o = by_mode o.mode
  where
    by_mode : (m : Mode) → operand_of (immediate_flag m) (frame_flag m) o.word ≡ record { mode = m; word = o.word }
    by_mode Immediate = refl
    by_mode Cell = refl
    by_mode Frame = refl

module _ (f : Form) (l : Listable f) where
  same_frame : frame_flag f.b.mode ≡ frame_flag f.a.mode
  same_frame = by_kind f.kind f.a.mode f.b.mode l.a_mode l.b_mode
    where
      by_kind : (k : Kind) (a b : Mode) → InRange (a_range (kind_number k)) a → InRange (b_range (kind_number k) (mode_number a)) b → frame_flag b ≡ frame_flag a
      by_kind Add a b r s = (follows a b).0 s
      by_kind Mul a b r s = (follows a b).0 s
      by_kind Deref a b r s = omega (arith, flagged a, flagged b)
      by_kind Jump a b r s = (follows a b).0 s
      by_kind (Extension op be n) a b r s = (follows a b).0 s

  its_flags : Flags (form_instruction f)
  unfolding form_instruction
  its_flags = record { a = (flagged f.a.mode).one; b = rw (← same_frame) (flagged f.b.mode).one; c = (flagged f.c.mode).one }

  its_words : Words (form_instruction f) f.kind
  unfolding form_instruction
  its_words = by_kind f.kind l.a_mode l.b_mode l.c_mode l.call
    where
      with_kind : Kind → Instruction
      with_kind k = form_instruction (record { kind = k; a = f.a; b = f.b; c = f.c })

      opcode : (k : Kind) → Opcode (with_kind k) (mul_word k) (jump_word k) (aux_word k)
      opcode k = record { mul_is = refl; jump_is = refl; aux_is = refl }

      plain : (k : Kind) → mode_number f.a.mode ≤ 1 → call_word k ≡ 0 → Plain (with_kind k)
      plain k h e = record { fpab_is = omega (arith, flagged f.a.mode); data_is = e }

      by_kind : (k : Kind)
          → InRange (a_range (kind_number k)) f.a.mode
          → InRange (b_range (kind_number k) (mode_number f.a.mode)) f.b.mode
          → InRange (c_range (kind_number k)) f.c.mode
          → CallFits k
          → Words (with_kind k) k
      by_kind Add a b c call = (opcode Add, plain Add a.1 refl)
      by_kind Mul a b c call = (opcode Mul, plain Mul a.1 refl)
      by_kind Deref a b c call = (opcode Deref, plain Deref a.1 refl, omega (arith, flagged f.a.mode), omega (arith, flagged f.b.mode))
      by_kind Jump a b c call = (opcode Jump, plain Jump a.1 refl, omega (arith, flagged f.c.mode))
      by_kind (Extension op be n) a b c (some, most) = (opcode (Extension op be n), written op be n some most)

  b_back : operand_of (immediate_flag f.b.mode) (frame_flag f.a.mode) f.b.word ≡ f.b
  b_back = rw (← same_frame) (operand_back f.b)

  pub decodes : decode_of (form_instruction f) ≡ Some f
  unfolding form_instruction
  decodes =
      kind-decodes (form_instruction f) f.kind (flags_fit_lem (form_instruction f) its_flags) its_words
      ∙ (λ j. Some (record { kind = f.kind; a = operand_back f.a j; b = b_back j; c = operand_back f.c j }))

  pub words_small : (k : ℕ) → get_or (instruction_words (form_instruction f)) k 0 < p
  unfolding form_instruction
  words_small =
      each_below (instruction_words (form_instruction f))
      (omega (arith, opcode_small f.kind, call_below f.kind l.call, flagged f.a.mode, flagged f.b.mode, flagged f.c.mode))

-- the mode of two flags, of which one at most is 1, has these flags
mode_flags : (x y : ℕ) → x + y ≤ 1 → (immediate_flag (operand_of x y 0).mode ≡ x) × (frame_flag (operand_of x y 0).mode ≡ y)
mode_flags zero zero h = (refl, refl)
mode_flags zero (suc zero) h = (refl, refl)
mode_flags (suc zero) zero h = (refl, refl)
mode_flags zero (suc (suc y)) h = absurd (omega arith)
mode_flags (suc zero) (suc y) h = absurd (omega arith)
mode_flags (suc (suc x)) y h = absurd (omega arith)

module _ (i : Instruction) (f : Form) (is : Formed i f) where
  its_opcode : (k : Kind) → Words i k → Opcode i (mul_word k) (jump_word k) (aux_word k) × (i.«data» ≡ call_word k) × CallFits k
  its_opcode Add (o, plain) = (o, plain.data_is, tt)
  its_opcode Mul (o, plain) = (o, plain.data_is, tt)
  its_opcode Deref (o, plain, fa, fb) = (o, plain.data_is, tt)
  its_opcode Jump (o, plain, fc) = (o, plain.data_is, tt)
  its_opcode (Extension op be n) (o, e) =
      let r = reads i.«data» op be n e in
      (o, sym r.word, (r.some, r.most))

  a_flags : (immediate_flag f.a.mode ≡ i.fa) × (frame_flag f.a.mode ≡ i.fpab)
  a_flags = rw is.a_is (mode_flags i.fa i.fpab is.flags.a)

  b_flags : (immediate_flag f.b.mode ≡ i.fb) × (frame_flag f.b.mode ≡ i.fpab)
  b_flags = rw is.b_is (mode_flags i.fb i.fpab is.flags.b)

  c_flags : (immediate_flag f.c.mode ≡ i.fc) × (frame_flag f.c.mode ≡ i.fpc)
  c_flags = rw is.c_is (mode_flags i.fc i.fpc is.flags.c)

  b_follows : InRange (cond (eqb (mode_number f.a.mode) 2) (range 2 2) (range 0 1)) f.b.mode
  b_follows = (follows f.a.mode f.b.mode).1 (b_flags.1 ∙ sym a_flags.1)

  c_any : InRange (range 0 2) f.c.mode
  c_any = omega (arith, flagged f.c.mode)

  a_plain : Plain i → InRange (range 0 1) f.a.mode
  a_plain plain = omega (arith, flagged f.a.mode, a_flags)

  modes : (k : Kind) → Words i k
      → InRange (a_range (kind_number k)) f.a.mode
      × InRange (b_range (kind_number k) (mode_number f.a.mode)) f.b.mode
      × InRange (c_range (kind_number k)) f.c.mode
  modes Add (o, plain) = (a_plain plain, b_follows, c_any)
  modes Mul (o, plain) = (a_plain plain, b_follows, c_any)
  modes Deref (o, plain, fa, fb) = (omega (arith, flagged f.a.mode, a_flags), omega (arith, flagged f.b.mode, b_flags), c_any)
  modes Jump (o, plain, fc) = (a_plain plain, b_follows, omega (arith, flagged f.c.mode, c_flags))
  modes (Extension op be n) w = (omega (arith, flagged f.a.mode), b_follows, c_any)

  its_instruction : form_instruction f ≡ i
  unfolding form_instruction
  its_instruction j =
      let (o, call, fits) = its_opcode f.kind is.words in
      record {
        a = (is.a_is j).word;
        b = (is.b_is j).word;
        c = (is.c_is j).word;
        fa = a_flags.0 j;
        fb = b_flags.0 j;
        fc = c_flags.0 j;
        fpc = c_flags.1 j;
        fpab = a_flags.1 j;
        mul = sym o.mul_is j;
        jump = sym o.jump_is j;
        aux = sym o.aux_is j;
        «data» = sym call j;
      }

-- an instruction of words that decodes is that of a form which a line can say
pub decoded : (i : Instruction) (f : Form) → ((k : ℕ) → get_or (instruction_words i) k 0 < p) → decode_of i ≡ Some f → Listable f × (form_instruction f ≡ i)
decoded i f small e =
    let is = formed_of i f e in
    let ranges = modes i f is f.kind is.words in (
      record {
        a_mode = ranges.0;
        a_word = rw is.a_is (omega (arith, small 0));
        b_mode = ranges.1;
        b_word = rw is.b_is (omega (arith, small 1));
        c_mode = ranges.2;
        c_word = rw is.c_is (omega (arith, small 2));
        call = (its_opcode i f is f.kind is.words).2;
      },
      its_instruction i f is,
    )
