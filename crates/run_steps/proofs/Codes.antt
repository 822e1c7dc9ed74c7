-- ADD, MUL, DEREF, JUMP and IS-PRECOMPILE of each kind: one is 1 and the others 0, by computation at its opcode words.
-- Assumes nothing.
use mathlib.Core.Path.{◌≡◌}
use Prim.Native.Nat.{ℕ}
use Rattle.word.specs.Word.{◌+ₚ◌, ◌-ₚ◌, ◌*ₚ◌}
use Rattle.form.specs.declared.Instruction.{Instruction}
use Rattle.form.specs.declared.Kind.{Kind}
use Rattle.form.specs.declared.Kind.TheVariants.{Add, Mul, Deref, Jump, Extension}
use Rattle.form.proofs.Forms.{Opcode, Words}
use Rattle.rules.specs.Execution.{half, ADD, DEREF, IS_PRECOMPILE}

pub record Codes (i : Instruction) (add mul deref jump precompile : ℕ) : Type 0 where
  pub add_is : ADD i ≡ add
  pub mul_is : i.mul ≡ mul
  pub deref_is : DEREF i ≡ deref
  pub jump_is : i.jump ≡ jump
  pub precompile_is : IS_PRECOMPILE i ≡ precompile

abbrev pub CodesOf : Instruction → Kind → Type 0
CodesOf i Add = Codes i 1 0 0 0 0
CodesOf i Mul = Codes i 0 1 0 0 0
CodesOf i Deref = Codes i 0 0 1 0 0
CodesOf i Jump = Codes i 0 0 0 1 0
CodesOf i (Extension op be n) = Codes i 0 0 0 0 1

module _ (i : Instruction) where
  at_words : (mul jump aux : ℕ) → Opcode i mul jump aux
      → Codes i (aux *ₚ (2 -ₚ aux)) mul (aux *ₚ (aux -ₚ 1) *ₚ half) jump (1 -ₚ (aux *ₚ (2 -ₚ aux) +ₚ mul +ₚ aux *ₚ (aux -ₚ 1) *ₚ half +ₚ jump))
  at_words mul jump aux o =
      record {
        add_is = rw o.aux_is;
        mul_is = o.mul_is;
        deref_is = rw o.aux_is;
        jump_is = o.jump_is;
        precompile_is = rw (o.aux_is, o.mul_is, o.jump_is);
      }

  pub codes : (k : Kind) → Words i k → CodesOf i k
  unfolding ◌+ₚ◌ ◌-ₚ◌ ◌*ₚ◌
  codes Add (o, plain) = at_words 0 0 1 o
  codes Mul (o, plain) = at_words 1 0 0 o
  codes Deref (o, plain, fa, fb) = at_words 0 0 2 o
  codes Jump (o, plain, fc) = at_words 0 1 0 o
  codes (Extension op be n) (o, e) = at_words 0 0 0 o
