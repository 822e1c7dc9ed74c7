-- Draft 0.6.0, 3.5.4 and 3.6.2; document 01, "The bus": tuples pushed and pulled, and that every tuple is pushed as
-- often as it is pulled.
-- Declared in src/: Instruction (form); Exec, Ext (rows).
use Rattle.std.specs.Prelude.{ℕ, zero, suc, ◌+◌, ◌*◌, ◌%◌, Bool, ◌&&◌, cond, eqb}
use Rattle.word.specs.Word.{p}
use Rattle.form.specs.Data.{data_of}
use Rattle.form.specs.declared.Instruction.{Instruction}
use Rattle.rows.specs.declared.Exec.{Exec}
use Rattle.rows.specs.declared.Ext.{Ext}
use Rattle.rules.specs.Given.{Given, Tables}
use Rattle.rules.specs.Execution.{νA, νB, νC, IS_PRECOMPILE}

pub record Tuple : Type 0 where
  pub aux : ℕ
  pub left : ℕ
  pub right : ℕ
  pub out : ℕ

abbrev pub same_tuple : Tuple → Tuple → Bool
same_tuple s t = eqb s.aux t.aux && eqb s.left t.left && eqb s.right t.right && eqb s.out t.out

-- (DATA, νA, νB, νC)
abbrev pub pushed : Instruction → Exec → Tuple
pushed i x = record { aux = i.«data»; left = νA i x; right = νB i x; out = νC i x }

-- how often an execution row pushes: of a well-formed instruction, once where it is a precompile, and else not
abbrev pub pushes : Instruction → ℕ
pushes i = IS_PRECOMPILE i

-- (2·be + 4·add + 8·mul + 16·peq + 32·len modulo p, idxA, idxB, idxR)
abbrev pub pulled : Ext → Tuple
pulled x = record { aux = data_of x.be x.add x.mul x.peq x.len % p; left = x.idxA; right = x.idxB; out = x.idxR }

-- how often an extension row pulls, as a whole number
abbrev pub pulls : Ext → ℕ
pulls x = x.start * (x.add + x.mul + x.peq)

-- the sum of f over the rows below n
abbrev pub total : (ℕ → ℕ) → ℕ → ℕ
total f zero = 0
total f (suc n) = total f n + f n

abbrev pub instruction_of : Given → Tables → ℕ → Instruction
instruction_of g t r = g.instruction (t.exec r).pc

-- how often a tuple is pushed by the execution rows below n, and pulled by the extension rows below n
abbrev pub pushed_to : Given → Tables → Tuple → ℕ → ℕ
pushed_to g t σ n =
    total (λ r. cond (same_tuple (pushed (instruction_of g t r) (t.exec r)) σ) (pushes (instruction_of g t r)) 0) n

abbrev pub pulled_to : Tables → Tuple → ℕ → ℕ
pulled_to t σ n = total (λ r. cond (same_tuple (pulled (t.ext r)) σ) (pulls (t.ext r)) 0) n

-- whether a tuple is pushed as often as it is pulled
abbrev pub balanced : Given → Tables → Tuple → Bool
balanced g t σ = eqb (pushed_to g t σ t.height) (pulled_to t σ t.ext_height)
