-- Every answer of the tabler holds: no row and no reason is made up, and an acceptance is a legal run that stays and
-- leaves a spare row. Read from the last test to the first: given that the tests before passed, the answer from a test
-- on is right.
-- Assumes nothing.
use mathlib.Core.Path.{◌≡◌, refl, ◌∙◌, ap}
use mathlib.Core.Bool.{◌&&◌, true≢false}
use mathlib.Core.List.{List, []}
use Prim.Native.Nat.{ℕ, suc, ◌-◌, ◌*◌, ◌≤◌, ◌<◌}
use native.Mathlib.Omega.{arith}
use lib.Dec.{T, ltb, ltb→lt}
use lib.ListN.{length}
use borrow.Author.Tests.{lt-ltb}
use Rattle.word.specs.Word.{p}
use Rattle.word.proofs.Tests.{both}
use Rattle.answer.specs.Answers.{Answer, Start, Instruction}
use Rattle.machine.specs.Machine.{State}
use Rattle.machine.specs.Step.{goes}
use Rattle.machine.specs.Run.{StayingRun}
use Rattle.rules.specs.Sizes.{Parts, given, tables_of}
use Rattle.tables.specs.Rows.{state_at}
use Rattle.judge_spec.specs.Judged.{words, instructions}
use Rattle.judge_spec.specs.Refusal.{part, part_fits}
use Rattle.judge_spec.proofs.Cases.{chosen, tested}
use Rattle.judge_spec.proofs.Lengths.{whole}
use Rattle.judge_spec.proofs.PartTests.{no_words, words_cases, sizes_cases}
use Rattle.judge_spec.proofs.StageReads.{instructions_read}
use Rattle.tabler_spec.specs.Tabled.{table_of, start_fits, ending}
use Rattle.run.specs.Runs.{Input, with_tables, machine, start_of, rows_in, ext_rows_in}
use Rattle.run.specs.Tabler.{answer_for, LegalTo, TablerTwo, TablerThree, TablerFour, Tells}
use Rattle.run.proofs.Ending.{ending_cases}

-- the tabler's answer from a test on
module _ (i : Input) (exec ext : List ℕ) where
  abbrev pub tabler_ending : Answer
  tabler_ending = ending (machine i) (start_of i) (rows_in exec) (ext_rows_in ext)

  abbrev pub tabler_start : Answer
  tabler_start = start_fits i.pc i.fp tabler_ending

  abbrev pub tabler_program : Answer
  tabler_program = instructions (given i.program []) tabler_start

  abbrev pub tabler_words : Answer
  tabler_words = words 1 i.program (words 2 i.memory tabler_program)

  abbrev q : Parts
  q = with_tables i exec ext

  abbrev own : ℕ → State
  own = state_at (machine i) (start_of i)

  -- the rows of two buffers of permitted lengths
  rows : TablerFour i exec ext → length exec ≡ 32 * rows_in exec
  rows x = omega (arith, (whole (length exec) 32 25 x.exec_size).whole)

  ext_rows : TablerFour i exec ext → length ext ≡ 120 * ext_rows_in ext
  ext_rows x = omega (arith, (whole (length ext) 120 20 x.ext_size).whole)

  some_rows : TablerFour i exec ext → 1 ≤ rows_in exec
  some_rows x = omega (arith, (whole (length exec) 32 25 x.exec_size).number.least)

  pub some_room : TablerFour i exec ext → 1 ≤ ext_rows_in ext
  some_room x = omega (arith, (whole (length ext) 120 20 x.ext_size).number.least)

  stays : 1 ≤ rows_in exec → LegalTo (machine i) (start_of i) (ext_rows_in ext) (rows_in exec) own → own (rows_in exec) ≡ own (rows_in exec - 1)
      → StayingRun (machine i) (start_of i) (rows_in exec - 1) own
  stays some to same =
      let next : suc (rows_in exec - 1) ≡ rows_in exec = omega arith in
      record {
        begins = to.legal.begins;
        steps = λ r h. to.legal.steps r (omega arith);
        stays = to.legal.steps (rows_in exec - 1) (omega arith) ∙ ap (λ (n : ℕ). goes (own n)) next ∙ ap goes same;
      }

  from_ending : TablerFour i exec ext → Tells i exec ext tabler_ending
  unfolding Tells
  from_ending x =
      ending_cases (machine i) (start_of i) (rows_in exec) (ext_rows_in ext) (some_room x) (Tells i exec ext)
      (λ r reason h to e. record { four = x; inside = h; state = own; before = to; bad = e })
      (λ r t h to e full. record { four = x; inside = h; state = own; before = to; next = t; steps = e; bad = full })
      (λ to moves. record { four = x; state = own; all = to; bad = moves; place = refl })
      (λ to same.
      record {
        permitted = x.permitted;
        height = rows_in exec;
        ext_height = ext_rows_in ext;
        rows = rows x;
        ext_rows = ext_rows x;
        state = own;
        legal = record { permitted = rw (← rows x) x.exec_size; run = stays (some_rows x) to same };
        spare = record { permitted = rw (← ext_rows x) x.ext_size; room = to.room };
      })

  from_start : TablerThree i exec ext → Tells i exec ext tabler_start
  unfolding Tells
  from_start x =
      chosen (ltb i.pc p && ltb i.fp p) tabler_ending Start (Tells i exec ext)
      (λ t.
      let h = both (ltb i.pc p) (ltb i.fp p) t in
      from_ending (four (ltb→lt _ _ h.0) (ltb→lt _ _ h.1)))
      (λ bad. record { three = x; bad = λ a b. true≢false (rw (lt-ltb i.pc p a, lt-ltb i.fp p b) at bad) })
    where
      four : i.pc < p → i.fp < p → TablerFour i exec ext
      four pc fp =
          record {
            permitted =
                record {
                  program_size = x.two.sizes 1;
                  memory_size = x.two.sizes 2;
                  program_words = x.two.program_words;
                  memory_words = x.two.memory_words;
                  instructions = x.instructions;
                  fp_word = fp;
                };
            pc_word = pc;
            exec_size = x.two.sizes 3;
            ext_size = x.two.sizes 4;
          }

  from_program : TablerTwo i exec ext → Tells i exec ext tabler_program
  unfolding Tells
  from_program x =
      tested (instructions_read (given i.program []) (tables_of q)) (given i.program []).count Instruction tabler_start (Tells i exec ext)
      (λ all. from_start (record { two = x; instructions = all }))
      (λ k h before bad. record { two = x; before = before; inside = h; bad = bad })

  from_words_lem : ((m : ℕ) → T (part_fits q m)) → Tells i exec ext tabler_words
  unfolding Tells
  from_words_lem sized =
      let test = words_cases q (Tells i exec ext) sized in
      test 1 _ (λ k x. record { bad = x; part = omega arith })
      (test 2 _ (λ k x. record { bad = x; part = omega arith })
      (λ all. from_program (record { sizes = sized; program_words = all 1 (omega arith); memory_words = all 2 (omega arith) })))
      (no_words q)

  pub told : Tells i exec ext (answer_for i exec ext)
  unfolding table_of Tells
  told = sizes_cases q (Tells i exec ext) tabler_words (λ n x. x) from_words_lem
