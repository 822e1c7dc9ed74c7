-- Where an instruction is malformed, and what is known of one that is not, by its kind.
-- Each follows the tests of decode_of in turn. Assumes nothing.
use mathlib.Core.Path.{◌≡◌, refl, sym, ap, ◌∙◌}
use mathlib.Core.Bool.{Bool, true, false, cond, true≢false, false≢true, ◌&&◌, ◌||◌}
use mathlib.Core.List.{[], ◌∷◌}
use Prim.Native.Nat.{ℕ, ◌+◌, ◌≤◌}
use native.Mathlib.Omega.{arith}
use lib.Dec.{eqb}
use borrow.Author.Tests.{eqb-true, leb-true}
use Rattle.word.proofs.Tests.{by_test, either, each}
use Rattle.form.specs.Data.{Call, None as NoCall, Of, read_data}
use Rattle.form.specs.Form.{flag, flags_fit, opcode, plain, is_add, is_mul, is_deref, is_jump, operand_of, form_of, extension_of, decode_of, is_well, well_formed}
use Rattle.form.specs.Opcodes.{is_call}
use Rattle.form.specs.declared.Instruction.{Instruction}
use Rattle.form.specs.declared.Kind.{Kind}
use Rattle.form.specs.declared.Kind.TheVariants.{Add, Mul, Deref, Jump, Extension}
use Rattle.form.specs.declared.Form.{Form}
use Rattle.std.specs.Prelude.{Option, Some, None}

-- each flag is 0 or 1, and of two that exclude each other one is 0
pub record Flags (i : Instruction) : Type 0 where
  pub a : i.fa + i.fpab ≤ 1
  pub b : i.fb + i.fpab ≤ 1
  pub c : i.fc + i.fpc ≤ 1

-- the opcode words
pub record Opcode (i : Instruction) (mul jump aux : ℕ) : Type 0 where
  pub mul_is : i.mul ≡ mul
  pub jump_is : i.jump ≡ jump
  pub aux_is : i.aux ≡ aux

pub record Plain (i : Instruction) : Type 0 where
  pub fpab_is : i.fpab ≡ 0
  pub data_is : i.«data» ≡ 0

-- what a kind says of the words; by DataLaws an extension's DATA is then its call's, with N in range
abbrev pub Words : Instruction → Kind → Type 0
Words i Add = Opcode i 0 0 1 × Plain i
Words i Mul = Opcode i 1 0 0 × Plain i
Words i Deref = Opcode i 0 0 2 × Plain i × (i.fa ≡ 0) × (i.fb ≡ 1)
Words i Jump = Opcode i 0 1 0 × Plain i × (i.fc ≡ 0)
Words i (Extension op be n) = Opcode i 0 0 0 × (read_data i.«data» ≡ Of op be n)

-- what is known of an instruction of a form
pub record Formed (i : Instruction) (f : Form) : Type 0 where
  pub flags : Flags i
  pub words : Words i f.kind
  pub a_is : f.a ≡ operand_of i.fa i.fpab i.a
  pub b_is : f.b ≡ operand_of i.fb i.fpab i.b
  pub c_is : f.c ≡ operand_of i.fc i.fpc i.c

abbrev Says : Instruction → Option Form → Type 0
Says i None = Unit {0}
Says i (Some f) = Formed i f

one_at_most : (x y : ℕ) → flag x ≡ true → flag y ≡ true → eqb x 0 || eqb y 0 ≡ true → x + y ≤ 1
one_at_most x y p q = either (eqb x 0) (eqb y 0) (λ e. omega (arith, leb-true x 1 p, leb-true y 1 q, eqb-true x 0 e)) (λ e. omega (arith, leb-true x 1 p, leb-true y 1 q, eqb-true y 0 e))

module _ (i : Instruction) where
  flags_of : flags_fit i ≡ true → Flags i
  flags_of t =
      let (a, (b, (c, (pc, (pab, (a-pab, (b-pab, c-pc))))))) =
      each (flag i.fa)
      (flag i.fb ∷ flag i.fc ∷ flag i.fpc ∷ flag i.fpab
      ∷ (eqb i.fa 0 || eqb i.fpab 0) ∷ (eqb i.fb 0 || eqb i.fpab 0) ∷ (eqb i.fc 0 || eqb i.fpc 0) ∷ [])
      t in
      record { a = one_at_most _ _ a pab a-pab; b = one_at_most _ _ b pab b-pab; c = one_at_most _ _ c pc c-pc }

  pub opcode_of : (mul jump aux : ℕ) → opcode i mul jump aux ≡ true → Opcode i mul jump aux
  opcode_of mul jump aux t =
      let e = each (eqb i.mul mul) (eqb i.jump jump ∷ eqb i.aux aux ∷ []) t in
      record { mul_is = eqb-true _ _ e.0; jump_is = eqb-true _ _ e.1.0; aux_is = eqb-true _ _ e.1.1 }

  pub plain_of : plain i ≡ true → Plain i
  plain_of t =
      let e = each (eqb i.fpab 0) (eqb i.«data» 0 ∷ []) t in
      record { fpab_is = eqb-true _ _ e.0; data_is = eqb-true _ _ e.1 }

  module _ (fit : flags_fit i ≡ true) where
    formed : (k : Kind) → Words i k → Says i (form_of i k)
    formed k words = record { flags = flags_of fit; words = words; a_is = refl; b_is = refl; c_is = refl }

    added : is_add i ≡ true → Says i (form_of i Add)
    added t =
        let (o, p) = each (opcode i 0 0 1) (plain i ∷ []) t in
        formed Add (opcode_of 0 0 1 o, plain_of p)

    multiplied : is_mul i ≡ true → Says i (form_of i Mul)
    multiplied t =
        let (o, p) = each (opcode i 1 0 0) (plain i ∷ []) t in
        formed Mul (opcode_of 1 0 0 o, plain_of p)

    dereferred : is_deref i ≡ true → Says i (form_of i Deref)
    dereferred t =
        let (o, (p, (fa, fb))) = each (opcode i 0 0 2) (plain i ∷ eqb i.fa 0 ∷ eqb i.fb 1 ∷ []) t in
        formed Deref (opcode_of 0 0 2 o, plain_of p, eqb-true _ _ fa, eqb-true _ _ fb)

    jumped : is_jump i ≡ true → Says i (form_of i Jump)
    jumped t =
        let (o, (p, fc)) = each (opcode i 0 1 0) (plain i ∷ eqb i.fc 0 ∷ []) t in
        formed Jump (opcode_of 0 1 0 o, plain_of p, eqb-true _ _ fc)

    extended : opcode i 0 0 0 ≡ true → (c : Call) → read_data i.«data» ≡ c → Says i (extension_of i c)
    extended o NoCall e = tt
    extended o (Of op be n) e = formed (Extension op be n) (opcode_of 0 0 0 o, e)

  decided : Says i (decode_of i)
  unfolding decode_of
  decided =
      by_test (Says i) (flags_fit i) (λ fit.
      by_test (Says i) (is_add i) (added fit) (λ _.
      by_test (Says i) (is_mul i) (multiplied fit) (λ _.
      by_test (Says i) (is_deref i) (dereferred fit) (λ _.
      by_test (Says i) (is_jump i) (jumped fit) (λ _.
      by_test (Says i) (opcode i 0 0 0) (λ o. extended fit o (read_data i.«data») refl) (λ _. tt))))))
      (λ _. tt)

  -- an instruction is malformed exactly where it isn't well-formed
  pub malformed : decode_of i ≡ None → well_formed i ≡ false
  malformed e = ap is_well e

  pub not_well_formed : well_formed i ≡ false → decode_of i ≡ None
  not_well_formed = only (decode_of i)
    where
      only : (d : Option Form) → is_well d ≡ false → d ≡ None
      only None not = refl
      only (Some f) not = absurd (true≢false not)

  -- what a form tells of its instruction
  pub formed_of : (f : Form) → decode_of i ≡ Some f → Formed i f
  formed_of f e = rw e at decided

  -- and what of an instruction gives it a form
  pub decodes : (k : Kind) → flags_fit i ≡ true → Words i k → decode_of i ≡ form_of i k
  unfolding decode_of
  decodes Add fit (o, p) = rw (fit, o.mul_is, o.jump_is, o.aux_is, p.fpab_is, p.data_is)
  decodes Mul fit (o, p) = rw (fit, o.mul_is, o.jump_is, o.aux_is, p.fpab_is, p.data_is)
  decodes Deref fit (o, p, fa, fb) = rw (fit, o.mul_is, o.jump_is, o.aux_is, p.fpab_is, p.data_is, fa, fb)
  decodes Jump fit (o, p, fc) = rw (fit, o.mul_is, o.jump_is, o.aux_is, p.fpab_is, p.data_is, fc)
  decodes (Extension op be n) fit (o, e) = rw (fit, o.mul_is, o.jump_is, o.aux_is, e)

  -- exactly one kind
  pub one_kind : (k k' : Kind) → flags_fit i ≡ true → Words i k → Words i k' → k ≡ k'
  one_kind k k' fit w w' = ap kind_of (sym (decodes k fit w) ∙ decodes k' fit w')
    where
      kind_of : Option Form → Kind
      kind_of None = k
      kind_of (Some f) = f.kind

  -- a well-formed instruction has a form
  pub well : well_formed i ≡ true → (f : Form) × (decode_of i ≡ Some f)
  well = some (decode_of i)
    where
      some : (d : Option Form) → is_well d ≡ true → (f : Form) × (d ≡ Some f)
      some None fits = absurd (false≢true fits)
      some (Some f) fits = (f, refl)

  -- the tests by which an instruction is known to be well-formed
  pub form_tests : flags_fit i && (is_add i || is_mul i || is_deref i || is_jump i || (opcode i 0 0 0 && is_call (read_data i.«data»))) ≡ well_formed i
  unfolding decode_of
  form_tests = same (flags_fit i) (is_add i) (is_mul i) (is_deref i) (is_jump i) (opcode i 0 0 0) (read_data i.«data»)
    where
      same : (fit a m d j o : Bool) (c : Call)
          → fit && (a || m || d || j || (o && is_call c))
          ≡ is_well (cond fit (cond a (form_of i Add) (cond m (form_of i Mul) (cond d (form_of i Deref) (cond j (form_of i Jump) (cond o (extension_of i c) None))))) None)
      same false a m d j o c = refl
      same true true m d j o c = refl
      same true false true d j o c = refl
      same true false false true j o c = refl
      same true false false false true o c = refl
      same true false false false false false c = refl
      same true false false false false true NoCall = refl
      same true false false false false true (Of op be n) = refl
