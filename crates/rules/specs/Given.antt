-- What the constraints speak of: numbered instructions, cells and rows. Draft 0.6.0, 3.2 and 3.6.1.
-- Declared in src/: Instruction (form); Exec, Ext (rows).
use Rattle.std.specs.Prelude.{ℕ, ◌+◌, Bool, ◌&&◌, cond, List, ltb, eqb}
use Rattle.word.specs.Element.{◌⟨◌⟩}
use Rattle.form.specs.declared.Instruction.{Instruction}
use Rattle.rows.specs.declared.Exec.{Exec}
use Rattle.rows.specs.declared.Ext.{Ext}

-- the program and the memory
pub record Given : Type 0 where
  pub count : ℕ
  pub instruction : ℕ → Instruction
  pub size : ℕ
  pub cell : ℕ → ℕ

-- the two tables, of H and of K rows
pub record Tables : Type 0 where
  pub height : ℕ
  pub exec : ℕ → Exec
  pub ext_height : ℕ
  pub ext : ℕ → Ext

-- a polynomial is 0
abbrev pub zero? : ℕ → Bool
zero? x = eqb x 0

-- an element rule fails if any coordinate isn't 0
abbrev pub zero_element? : List ℕ → Bool
zero_element? a = zero? (a ⟨ 0 ⟩) && zero? (a ⟨ 1 ⟩) && zero? (a ⟨ 2 ⟩) && zero? (a ⟨ 3 ⟩) && zero? (a ⟨ 4 ⟩)

-- the row paired with row r of a table of n rows: the next one; the last row is paired with itself
abbrev pub next : ℕ → ℕ → ℕ
next n r = cond (ltb (r + 1) n) (r + 1) r

-- a lookup: the address is below M, and the value is the cell's
abbrev pub looks_up : Given → ℕ → ℕ → Bool
looks_up g addr value = ltb addr g.size && eqb value (g.cell addr)

-- a lookup of five cells from an address on
abbrev pub looks_up_five : Given → ℕ → List ℕ → Bool
looks_up_five g addr a =
    looks_up g addr (a ⟨ 0 ⟩)
    && looks_up g (addr + 1) (a ⟨ 1 ⟩)
    && looks_up g (addr + 2) (a ⟨ 2 ⟩)
    && looks_up g (addr + 3) (a ⟨ 3 ⟩)
    && looks_up g (addr + 4) (a ⟨ 4 ⟩)

-- a rule under its number
pub record Rule : Type 0 where
  pub number : ℕ
  pub holds : Bool

abbrev pub rule : ℕ → Bool → Rule
rule n b = record { number = n; holds = b }
