-- The tables' bytes, read back, are their rows: rows of one width stand one after the other, and reading a row undoes
-- writing it.
-- Assumes nothing.
use mathlib.Core.Path.{◌≡◌}
use mathlib.Core.List.{List, [], ◌++◌, append_assoc, append-nil}
use Prim.Native.Nat.{ℕ, zero, suc, ◌*◌, ◌<◌}
use native.Mathlib.Omega.{arith}
use lib.ListN.{length, length-append}
use Rattle.word.proofs.Tests.{by_order}
use Rattle.word.specs.Bytes.{concatenated}
use Rattle.rows.specs.declared.Exec.{Exec}
use Rattle.rows.specs.declared.Ext.{Ext}
use Rattle.rows.specs.Rows.{exec_at, ext_at, bytes_of_words, exec_words, ext_words}
use Rattle.rows.proofs.Writing.{length_bytes}
use Rattle.rows.proofs.RowLaws.{read_exec_at, read_ext_at}
use Rattle.rules.specs.Given.{Given}
use Rattle.rules.specs.Satisfies.{Words}
use Rattle.machine.specs.Machine.{Machine, State}
use Rattle.tables.specs.Rows.{exec_row_of}
use Rattle.tables.specs.Groups.{ext_row_of}
use Rattle.tables.specs.Bytes.{exec_table, ext_table}
use Rattle.run_steps.specs.Setting.{machine_in}
use Rattle.run_tables.specs.Setting.{Writable}
use Rattle.run_tables.proofs.Written.{exec_words_lem, ext_words_lem}
use Rattle.run_tables.proofs.Words.{words_below, exec_all, ext_all, rows_read}

rows_length : (row : ℕ → List ℕ) (width : ℕ) → ((r : ℕ) → length (row r) ≡ width) → (n : ℕ) → length (concatenated row n) ≡ width * n
unfolding concatenated
rows_length row width sized zero = omega arith
rows_length row width sized (suc n) = omega (arith, length-append (concatenated row n) (row n), sized n, rows_length row width sized n)

-- the rows before row r, row r, and the rest
rows_split : (row : ℕ → List ℕ) (n r : ℕ) → r < n → (rest : List ℕ) × (concatenated row n ≡ concatenated row r ++ (row r ++ rest))
unfolding concatenated
rows_split row zero r h = absurd (omega arith)
rows_split row (suc n) r h =
    by_order r n (λ below. let e = rows_split row n r below in (e.0 ++ row n, rw e.1 (simp append_assoc)))
    (λ above. let last : r ≡ n = omega arith in ([], rw (last, append-nil)))

exec_width : (x : Exec) → length (bytes_of_words (exec_words x)) ≡ 32
exec_width x = length_bytes (exec_words x)

ext_width : (x : Ext) → length (bytes_of_words (ext_words x)) ≡ 120
ext_width x = length_bytes (ext_words x)

-- the lengths of the tables
module _ (m : Machine) (state : ℕ → State) (height : ℕ) where
  pub exec_length : length (exec_table m state height) ≡ 32 * height
  exec_length = rows_length _ 32 (λ r. exec_width (exec_row_of m (state r))) height

  pub ext_length : (ext_height : ℕ) → length (ext_table m state height ext_height) ≡ 120 * ext_height
  ext_length ext_height = rows_length _ 120 (λ k. ext_width (ext_row_of m state 0 height k)) ext_height

module _ {g : Given} {start : State} {height ext_height : ℕ} {state : ℕ → State} (w : Writable g start height ext_height state) where
  pub exec_read : (r : ℕ) → r < height → exec_at (exec_table (machine_in g) state height) (32 * r) ≡ exec_row_of (machine_in g) (state r)
  exec_read r h =
      let m = machine_in g in
      let x = exec_row_of m (state r) in
      let e = rows_split (λ (i : ℕ). bytes_of_words (exec_words (exec_row_of m (state i)))) height r h in
      rw (e.1, ← exec_length m state r) (read_exec_at x (words_below (exec_words x) (exec_all x (exec_words_lem w r h))) (exec_table m state r) e.0)

  pub ext_read : (k : ℕ) → k < ext_height → ext_at (ext_table (machine_in g) state height ext_height) (120 * k) ≡ ext_row_of (machine_in g) state 0 height k
  ext_read k h =
      let m = machine_in g in
      let x = ext_row_of m state 0 height k in
      let e = rows_split (λ (i : ℕ). bytes_of_words (ext_words (ext_row_of m state 0 height i))) ext_height k h in
      let f = ext_words_lem w k in
      rw (e.1, ← ext_length m state height k)
      (read_ext_at x (words_below (ext_words x) (ext_all x f))
      (record { vA_five = f.vA.five_long; vB_five = f.vB.five_long; comp_five = f.comp.five_long; res_five = f.res.five_long })
      (ext_table m state height k) e.0)

  -- every word of the bytes is below p
  pub exec_table_words : Words (exec_table (machine_in g) state height)
  exec_table_words k h = rows_read (λ r. exec_words (exec_row_of (machine_in g) (state r))) height (λ r l. exec_all _ (exec_words_lem w r l)) k

  pub ext_table_words : Words (ext_table (machine_in g) state height ext_height)
  ext_table_words k h = rows_read (λ i. ext_words (ext_row_of (machine_in g) state 0 height i)) ext_height (λ i l. ext_all _ (ext_words_lem w i)) k
