-- Inner: what the stages before the bus leave of the tables.
-- Declared in src/: Ext (rows).
use Rattle.std.specs.Prelude.{◌≡◌, true, List, ℕ, ◌*◌, ◌/◌, ◌^◌, ◌≤◌, ◌<◌, length}
use Rattle.form.specs.Form.{well_formed}
use Rattle.form.specs.Instruction.{instruction_at}
use Rattle.rows.specs.Rows.{exec_at, ext_at}
use Rattle.rows.specs.declared.Ext.{Ext}

-- a length that leaves every place in 32 bits, as each that fits does
abbrev pub Short : List ℕ → Type 0
Short bytes = length bytes < 2 ^ 32

-- every instruction is well-formed, and every row's is one of them
pub record Listed (program exec : List ℕ) : Type 0 where
  pub formed : (i : ℕ) → i < length program / 48 → well_formed (instruction_at program (48 * i)) ≡ true
  pub inside : (r : ℕ) → r < length exec / 32 → (exec_at exec (32 * r)).pc < length program / 48

-- the words that multiplicities are made of are 0 or 1
pub record Flags (x : Ext) : Type 0 where
  pub start_bit : x.start ≤ 1
  pub add_bit : x.add ≤ 1
  pub mul_bit : x.mul ≤ 1
  pub peq_bit : x.peq ≤ 1

abbrev pub Flagged : List ℕ → Type 0
Flagged ext = (k : ℕ) → k < length ext / 120 → Flags (ext_at ext (120 * k))

-- all of it
pub record Ready (program exec ext : List ℕ) : Type 0 where
  pub listed : Listed program exec
  pub flagged : Flagged ext
  pub exec_short : Short exec
  pub ext_short : Short ext
