-- Document 01, "Layouts" and "The tabler": the two tables of a run as bytes, H execution rows and K extension rows.
use Rattle.std.specs.Prelude.{ℕ, List}
use Rattle.word.specs.Bytes.{concatenated}
use Rattle.rows.specs.Rows.{bytes_of_words, exec_words, ext_words}
use Rattle.machine.specs.Machine.{Machine, State}
use Rattle.tables.specs.Rows.{exec_row_of}
use Rattle.tables.specs.Groups.{ext_row_of}

abbrev pub exec_table : Machine → (ℕ → State) → ℕ → List ℕ
exec_table m state height = concatenated (λ r. bytes_of_words (exec_words (exec_row_of m (state r)))) height

abbrev pub ext_table : Machine → (ℕ → State) → ℕ → ℕ → List ℕ
ext_table m state height ext_height = concatenated (λ k. bytes_of_words (ext_words (ext_row_of m state 0 height k))) ext_height
