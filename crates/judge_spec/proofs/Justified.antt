-- Every answer of the judge holds: no row, word or rule number is made up, and an acceptance is a proof that the tables
-- satisfy the constraints. Read from the last test to the first: given that the tests before passed, the answer from a
-- test on is right.
use mathlib.Core.Path.{refl}
use mathlib.Core.Logic.{inl, inr}
use Prim.Native.Nat.{ℕ, ◌<◌}
use native.Mathlib.Omega.{arith}
use lib.Dec.{T}
use Rattle.answer.specs.Answers.{Accepted, Instruction, Bus}
use Rattle.rules.specs.Given.{Given, Tables}
use Rattle.rules.specs.Lookups.{exec_lookups, ext_lookups}
use Rattle.rules.specs.Bus.{pulled}
use Rattle.rules.specs.Sizes.{Parts, given_of, tables_of}
use Rattle.rules.specs.Satisfies.{Words, Satisfies}
use Rattle.judge_spec.specs.Judged.{words, exec_rules_at, exec_failing, exec_refusal, ext_rules_at, ext_failing, ext_refusal, pushed_at, judge_of}
use Rattle.judge_spec.specs.Refusal.{part, part_fits, PassedTwo, PassedThree, PassedFour, PassedFive, PassedSix, Equal, Pushes, Pulls, Says}
use Rattle.judge_spec.proofs.PartNumbers.{every_from}
use Rattle.judge_spec.proofs.PartTests.{no_words, words_cases, sizes_cases}
use Rattle.judge_spec.proofs.Stages.{judge_pulls, judge_bus, judge_extension, judge_execution, judge_start, judge_program, judge_words}
use Rattle.judge_spec.proofs.BusLaws.{bus_equal}
use Rattle.judge_spec.proofs.Standing.{stands, exec_covers, ext_covers}
use Rattle.judge_spec.proofs.Cases.{tested}
use Rattle.judge_spec.proofs.StageReads.{instructions_read, exec_read, ext_read, push_read, pull_read, start_cases}

module _ (q : Parts) where
  abbrev g : Given
  g = given_of q

  abbrev t : Tables
  t = tables_of q

  satisfied : PassedSix q
      → ((r : ℕ) → r < t.height → Pushes g t r → Equal g t (pushed_at g t r))
      → ((r : ℕ) → r < t.ext_height → Pulls g t r → Equal g t (pulled (t.ext r)))
      → Satisfies q
  satisfied x pushing pulling =
      let s = x.five.four in
      let read = s.three.two in
      record {
        program_size = read.sizes 1;
        memory_size = read.sizes 2;
        exec_size = read.sizes 3;
        ext_size = read.sizes 4;
        program_words = read.words 1;
        memory_words = read.words 2;
        exec_words = read.words 3;
        ext_words = read.words 4;
        instructions = s.three.instructions;
        start_pc = s.start_pc;
        start_fp = s.start_fp;
        constraints =
            record {
              execution = x.five.execution;
              extension = x.extension;
              bus = bus_equal g t pushing pulling;
            };
      }

  from_bus : PassedSix q → Says q (judge_bus q)
  unfolding Says
  from_bus x =
      tested (push_read g t) t.height (Bus 3) (judge_pulls q) (Says q)
      (λ pushing.
      tested (pull_read g t) t.ext_height (Bus 4) Accepted (Says q)
      (λ pulling. satisfied x pushing pulling)
      (λ r h before bad. inr (refl, record { six = x; pushes_equal = pushing; before = before; inside = h; pulling = bad.0; bad = bad.1 })))
      (λ r h before bad. inl (refl, record { six = x; before = before; inside = h; pushing = bad.0; bad = bad.1 }))

  from_extension : PassedFive q → Says q (judge_extension q)
  unfolding Says
  from_extension x =
      tested (ext_read g t) t.ext_height (λ r. ext_refusal g t r (ext_failing g t r)) (judge_bus q) (Says q)
      (λ all. from_bus (record { five = x; extension = all }))
      (λ r h before bad.
      let stood = stands g (ext_rules_at g t r) (ext_lookups (t.ext r)) (ext_failing g t r) (ext_covers g (t.ext r) _) bad in
      record { five = x; before = before; inside = h; bad = bad; stood = stood })

  from_execution : PassedFour q → Says q (judge_execution q)
  unfolding Says
  from_execution x =
      tested (exec_read g t) t.height (λ r. exec_refusal g t r (exec_failing g t r)) (judge_extension q) (Says q)
      (λ all. from_extension (record { four = x; execution = all }))
      (λ r h before bad.
      let stood = stands g (exec_rules_at g t r) (exec_lookups (t.exec r)) (exec_failing g t r) (exec_covers g (t.exec r) _ _) bad in
      record { four = x; before = before; inside = h; bad = bad; stood = stood })

  from_start : PassedThree q → Says q (judge_start q)
  unfolding Says
  from_start x =
      start_cases g t q.pc q.fp (judge_execution q) (Says q)
      (λ a b. from_execution (record { three = x; start_pc = a; start_fp = b }))
      (λ bad. record { three = x; bad = bad })

  from_instructions_lem : PassedTwo q → Says q (judge_program q)
  unfolding Says
  from_instructions_lem x =
      tested (instructions_read g t) g.count Instruction (judge_start q) (Says q)
      (λ all. from_start (record { two = x; instructions = all }))
      (λ i h before bad. record { two = x; before = before; inside = h; bad = bad })

  from_part_1 : ((m : ℕ) → T (part_fits q m)) → Says q (judge_words q)
  unfolding Says
  from_part_1 sized =
      let test = words_cases q (Says q) sized in
      test 1 _ (λ k x. x)
      (test 2 _ (λ k x. x)
      (test 3 _ (λ k x. x)
      (test 4 _ (λ k x. x)
      (λ all. from_instructions_lem (record { sizes = sized; words = every_from (λ m. Words (part q m)) all (λ m k h. absurd (omega arith)) })))))
      (no_words q)

  pub justified : Says q (judge_of q)
  unfolding judge_of Says
  justified = sizes_cases q (Says q) (judge_words q) (λ n x. x) from_part_1
