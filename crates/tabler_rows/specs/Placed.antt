-- Inner: rows that the code puts in the place of other bytes of a table.
-- Declared in src/: Exec, Ext (rows); Group, Operands (tabler_operands).
use Rattle.std.specs.Prelude.{List, ◌++◌, ℕ, ◌-◌, ◌*◌, ◌/◌, length, take, drop}
use Rattle.word.specs.Bytes.{concatenated}
use Rattle.rows.specs.Rows.{bytes_of_words, exec_words, ext_words}
use Rattle.rows.specs.declared.Exec.{Exec}
use Rattle.rows.specs.declared.Ext.{Ext}
use Rattle.tables.specs.Groups.{group_row, padding}
use Rattle.tabler_operands.specs.declared.Group.{Group}
use Rattle.tabler_operands.specs.declared.Operands.{Operands}

-- the 32 bytes of an execution row, and the 120 of an extension row
abbrev pub exec_bytes : Exec → List ℕ
exec_bytes x = bytes_of_words (exec_words x)

abbrev pub ext_bytes : Ext → List ℕ
ext_bytes x = bytes_of_words (ext_words x)

-- a buffer with other bytes in the place of those from at to end
abbrev pub placed : List ℕ → ℕ → ℕ → List ℕ → List ℕ
placed t at end x = take at t ++ (x ++ drop (end - at) (drop at t))

-- the execution row of a state whose operands were looked at
abbrev pub row_by : ℕ → ℕ → Operands → Exec
row_by pc fp o =
    record {
      pc = pc;
      fp = fp;
      addrA = o.a.addr;
      addrB = o.b.addr;
      addrC = o.c.addr;
      valueA = o.a.cell;
      valueB = o.b.cell;
      valueC = o.c.cell;
    }

-- row j of a group, and all its rows
abbrev pub row_in : (ℕ → ℕ) → Group → ℕ → Ext
row_in cell g j = group_row cell g.op g.be g.n g.a g.b g.c j

abbrev pub group_bytes : (ℕ → ℕ) → Group → List ℕ
group_bytes cell g = concatenated (λ j. ext_bytes (row_in cell g j)) g.n

-- the extension table with padding in the place of every row after those filled
abbrev pub with_padding : (ℕ → ℕ) → ℕ → List ℕ → List ℕ
with_padding cell filled ext =
    placed ext (120 * filled) (120 * (length ext / 120)) (concatenated (λ j. ext_bytes (padding cell)) (length ext / 120 - filled))
