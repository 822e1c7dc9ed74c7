-- Document 01, "Draws, recipe, label": what the programs build of a recipe, tabled at H = K = 256 from pc 0, fp 0.
-- Declared in src/: Recipe (label).
use Rattle.std.specs.Prelude.{ℕ, List, ◌++◌}
use Rattle.label.specs.declared.Recipe.{Recipe}
use Rattle.machine.specs.Machine.{Machine, State}
use Rattle.maker_spec.specs.Bytes.{program_of, memory_of}
use Rattle.tables.specs.Machine.{machine_of}
use Rattle.tables.specs.Rows.{state_at}
use Rattle.tables.specs.Bytes.{exec_table, ext_table}

-- H and K
abbrev pub height : ℕ
height = 256

module _ (r : Recipe) where
  abbrev machine_made : Machine
  machine_made = machine_of (program_of r) (memory_of r)

  abbrev states : ℕ → State
  states = state_at machine_made (record { pc = 0; fp = 0 })

  -- the two tables of the run
  unfoldable pub exec_tabled : List ℕ
  exec_tabled = exec_table machine_made states height

  unfoldable pub ext_tabled : List ℕ
  ext_tabled = ext_table machine_made states height height

  -- parts 1 to 4 in order
  abbrev pub four_parts : List ℕ
  four_parts = program_of r ++ memory_of r ++ exec_tabled ++ ext_tabled
