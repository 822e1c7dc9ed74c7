-- How often a well-formed instruction pushes: once where it has no opcode word, and else not.
-- Assumes nothing.
use mathlib.Core.Path.{◌≡◌, sym}
use mathlib.Core.Bool.{Bool, true, false, cond}
use Prim.Native.Nat.{ℕ}
use Rattle.word.specs.Word.{◌+ₚ◌, ◌-ₚ◌, ◌*ₚ◌}
use Rattle.form.specs.Form.{well_formed, opcode}
use Rattle.form.specs.declared.Instruction.{Instruction}
use Rattle.form.specs.declared.Kind.{Kind}
use Rattle.form.specs.declared.Kind.TheVariants.{Add, Mul, Deref, Jump, Extension}
use Rattle.form.proofs.Forms.{Words, well, formed_of}
use Rattle.rules.specs.Bus.{pushes}

by_kind : (i : Instruction) (k : Kind) → Words i k → cond (opcode i 0 0 0) 1 0 ≡ pushes i
unfolding ◌+ₚ◌ ◌-ₚ◌ ◌*ₚ◌
by_kind i Add (o, p) = rw (o.mul_is, o.jump_is, o.aux_is)
by_kind i Mul (o, p) = rw (o.mul_is, o.jump_is, o.aux_is)
by_kind i Deref (o, p, a, b) = rw (o.mul_is, o.jump_is, o.aux_is)
by_kind i Jump (o, p, c) = rw (o.mul_is, o.jump_is, o.aux_is)
by_kind i (Extension op be n) (o, d) = rw (o.mul_is, o.jump_is, o.aux_is)

pub pushes_by : (i : Instruction) → well_formed i ≡ true → cond (opcode i 0 0 0) 1 0 ≡ pushes i
pushes_by i fits =
    let f = well i fits in
    by_kind i f.0.kind (formed_of i f.0 f.1).words

-- so what the code finds says how often
pub no_push : (b : Bool) {n : ℕ} → cond b 1 0 ≡ n → b ≡ false → n ≡ 0
no_push b h e = sym (rw e at h)

pub one_push : (b : Bool) {n : ℕ} → cond b 1 0 ≡ n → b ≡ true → n ≡ 1
one_push b h e = sym (rw e at h)

pub pushes_one : (i : Instruction) → well_formed i ≡ true → opcode i 0 0 0 ≡ true → pushes i ≡ 1
pushes_one i fits e = sym (rw e at (pushes_by i fits))

pub pushes_none : (i : Instruction) → well_formed i ≡ true → opcode i 0 0 0 ≡ false → pushes i ≡ 0
pushes_none i fits e = sym (rw e at (pushes_by i fits))
