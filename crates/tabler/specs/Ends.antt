-- Inner: how the tabler's stages end: the answer, and both tables at return.
use Rattle.std.specs.Prelude.{List, ◌≡◌, ℕ, ◌/◌, length}
use Rattle.answer.specs.Answers.{Accepted, Answer}
use Rattle.tables.specs.Bytes.{exec_table, ext_table}
use Rattle.tables.specs.Machine.{machine_of}
use Rattle.tables.specs.Rows.{state_at}
use Rattle.tabler_spec.specs.Tabled.{ending, held_after}
use Rattle.tabler_operands.specs.Looked.{at}

-- what the tabler is handed: the start and the bytes, those of the tables as they are at entry
module _ (program memory : List ℕ) (pc fp : ℕ) (exec₀ ext₀ : List ℕ) where
  -- the answer of the run itself
  abbrev pub run_of : Answer
  run_of = ending (machine_of program memory) (at pc fp) (length exec₀ / 32) (length ext₀ / 120)

  -- both tables of the run
  abbrev pub exec_of : List ℕ
  exec_of = let m = machine_of program memory in exec_table m (state_at m (at pc fp)) (length exec₀ / 32)

  abbrev pub ext_of : List ℕ
  ext_of = let m = machine_of program memory in ext_table m (state_at m (at pc fp)) (length exec₀ / 32) (length ext₀ / 120)

  -- how the run ends: where it is ACCEPTED both tables are filled
  pub record Ended (exec ext : List ℕ) (r : Answer) : Type 0 where
    pub answer : r ≡ run_of
    pub exec_filled : r ≡ Accepted → exec ≡ exec_of
    pub ext_filled : r ≡ Accepted → ext ≡ ext_of

  -- the answer is as expected, and both tables hold what is left after it
  pub record Tabling (expected : Answer) (exec ext : List ℕ) (r : Answer) : Type 0 where
    pub answer : r ≡ expected
    pub exec_held : exec ≡ held_after expected exec₀ exec_of
    pub ext_held : ext ≡ held_after expected ext₀ ext_of
