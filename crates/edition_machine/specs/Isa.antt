-- Draft 0.5.0, 2.4: the instructions as its ISA has them, without flags or encoding. The two precompiles of 2.4.4 are
-- left out: EDITION refuses them.
use Rattle.std.specs.Prelude.{ℕ}

-- what an instruction names: α itself, m[fp + α], or fp, the frame pointer
pub data Source : Type 0 where
  constant : ℕ → Source
  stored : ℕ → Source
  pointer : Source

-- 2.4.1 ADD / MUL: a + c = b, or a · c = b; here and in `jump` the operands stand in the order A, B, C
-- 2.4.2 DEREF: m[m[fp + α] + β] is γ, m[fp + γ] or fp
-- 2.4.3 JUMP: condition, dest, next(fp)
pub data Isa : Type 0 where
  add : Source → Source → Source → Isa
  mul : Source → Source → Source → Isa
  deref : ℕ → ℕ → Source → Isa
  jump : Source → Source → Source → Isa
