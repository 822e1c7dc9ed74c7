-- Document 01, "Layouts"; draft 0.6.0, 2.2 and 3.1: the lengths that the four parts may have, and what their bytes are
-- as numbered words.
use Rattle.std.specs.Prelude.{ℕ, zero, suc, ◌*◌, ◌/◌, ◌%◌, ◌^◌, Bool, ◌&&◌, ◌||◌, List, [], length, leb, eqb}
use Rattle.word.specs.Bytes.{word_at}
use Rattle.form.specs.Instruction.{instruction_at}
use Rattle.rows.specs.Rows.{exec_at, ext_at}
use Rattle.rules.specs.Given.{Given, Tables}

-- what the judge is handed, as bytes, and the start
pub record Parts : Type 0 where
  pub program : List ℕ
  pub memory : List ℕ
  pub exec : List ℕ
  pub ext : List ℕ
  pub pc : ℕ
  pub fp : ℕ

-- the same, in the order in which a call hands them in
abbrev pub parts_of : List ℕ → List ℕ → ℕ → ℕ → List ℕ → List ℕ → Parts
parts_of program memory pc fp exec ext =
    record { program = program; memory = memory; exec = exec; ext = ext; pc = pc; fp = fp }

-- n is 2^k for some k from low to high
abbrev pub is_power : ℕ → ℕ → ℕ → Bool
is_power n low zero = leb low 0 && eqb n 1
is_power n low (suc high) = leb low (suc high) && (eqb n (2 ^ suc high) || is_power n low high)

-- so many bytes to a unit, and 2^k units for some k from 8 on
abbrev pub power_of : ℕ → ℕ → ℕ → Bool
power_of bytes unit high = eqb (bytes % unit) 0 && is_power (bytes / unit) 8 high

-- part 1: 1 to 2^20 instructions of 48 bytes
abbrev pub program_fits : ℕ → Bool
program_fits bytes = eqb (bytes % 48) 0 && leb 1 (bytes / 48) && leb (bytes / 48) (2 ^ 20)

-- part 2: 2^m words, m from 8 to 29
abbrev pub memory_fits : ℕ → Bool
memory_fits bytes = power_of bytes 4 29

-- part 3: H rows of 32 bytes, H a power of two, 2^8 to 2^25
abbrev pub exec_fits : ℕ → Bool
exec_fits bytes = power_of bytes 32 25

-- part 4: K rows of 120 bytes, K a power of two, 2^8 to 2^20
abbrev pub ext_fits : ℕ → Bool
ext_fits bytes = power_of bytes 120 20

-- the words of a part, numbered
abbrev pub word_of : List ℕ → ℕ → ℕ
word_of bytes k = word_at bytes (4 * k)

abbrev pub given_of : Parts → Given
given_of q =
    record {
      count = length q.program / 48;
      instruction = λ i. instruction_at q.program (48 * i);
      size = length q.memory / 4;
      cell = word_of q.memory;
    }

abbrev pub tables_of : Parts → Tables
tables_of q =
    record {
      height = length q.exec / 32;
      exec = λ r. exec_at q.exec (32 * r);
      ext_height = length q.ext / 120;
      ext = λ r. ext_at q.ext (120 * r);
    }

-- a program and a memory, or two tables, by themselves
abbrev pub handed : List ℕ → List ℕ → List ℕ → List ℕ → Parts
handed program memory exec ext = record { program = program; memory = memory; exec = exec; ext = ext; pc = 0; fp = 0 }

abbrev pub given : List ℕ → List ℕ → Given
given program memory = given_of (handed program memory [] [])

abbrev pub tables : List ℕ → List ℕ → Tables
tables exec ext = tables_of (handed [] [] exec ext)
