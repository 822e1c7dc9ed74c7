-- One answer alone holds of what the tabler is handed, the tabler's: where the tests before passed its answer is the
-- next test's, and that one refuses as said.
-- Assumes nothing.
use mathlib.Core.Path.{◌≡◌, refl, sym, ap, ◌∙◌, subst}
use mathlib.Core.Logic.{◌↔◌}
use mathlib.Core.List.{List, [], ◌∷◌}
use Prim.Native.Nat.{ℕ, zero, suc, ◌-◌, ◌≤◌}
use native.Mathlib.Omega.{arith}
use lib.Dec.{T}
use lib.ListN.{length}
use borrow.Author.Tests.{lt-ltb, ltb-true}
use Rattle.word.specs.Word.{p}
use Rattle.word.proofs.Tests.{by_test, each}
use Rattle.std.specs.Prelude.{Ok, Err}
use Rattle.answer.specs.declared.Refusal.TheVariants as refusal
use Rattle.answer.specs.Answers.{Answer, Accepted, Size, Word, Instruction, Start, Exec, Extension, Bus, Label, Stuck, Room, Open, Buffer, Grid, Edition, Listing, Short, Host, ListShort}
use Rattle.machine.specs.Machine.{State}
use Rattle.rules.specs.Sizes.{Parts, given, tables_of}
use Rattle.judge_spec.specs.Refusal.{BadWord, part_fits}
use Rattle.judge_spec.proofs.Cases.{untouched, refusing}
use Rattle.judge_spec.proofs.Lengths.{few}
use Rattle.judge_spec.proofs.PartNumbers.{every}
use Rattle.judge_spec.proofs.PartTests.{words_pass, word_at_lem, sizes_pass, size_refused}
use Rattle.judge_spec.proofs.StageReads.{instructions_read}
use Rattle.tabler_spec.specs.Tabled.{table_of}
use Rattle.run_steps.proofs.Legal.{goes_only_if}
use Rattle.run.specs.Runs.{Input, with_tables, machine, start_of, rows_in, ext_rows_in}
use Rattle.run.specs.Tabler.{answer_for, TablerTwo, TablerThree, TablerStart, TablerFour, AcceptedRun, Tells}
use Rattle.run.proofs.Agree.{many_steps}
use Rattle.run.proofs.Ending.{ending_stuck, ending_room, ending_open, ending_accepts}
use Rattle.run.proofs.Told.{tabler_ending, tabler_start, tabler_program, tabler_words, some_room, told}

module _ (i : Input) (exec ext : List ℕ) where
  abbrev q : Parts
  q = with_tables i exec ext

  -- the tabler's answer where the tests before a test passed
  sized : ((m : ℕ) → T (part_fits q m)) → answer_for i exec ext ≡ tabler_words i exec ext
  unfolding table_of
  sized = sizes_pass q (tabler_words i exec ext)

  read : TablerTwo i exec ext → answer_for i exec ext ≡ tabler_program i exec ext
  read x = sized x.sizes ∙ words_pass 1 i.program _ x.program_words ∙ words_pass 2 i.memory _ x.memory_words

  formed : TablerThree i exec ext → answer_for i exec ext ≡ tabler_start i exec ext
  formed x =
      read x.two
      ∙ untouched (instructions_read (given i.program []) (tables_of q)) (given i.program []).count Instruction (tabler_start i exec ext)
      x.instructions

  three : TablerFour i exec ext → TablerThree i exec ext
  three x =
      record {
        two =
            record {
              sizes = every (λ m. T (part_fits q m)) tt x.permitted.program_size x.permitted.memory_size x.exec_size x.ext_size (λ m. tt);
              program_words = x.permitted.program_words;
              memory_words = x.permitted.memory_words;
            };
        instructions = x.permitted.instructions;
      }

  started : TablerFour i exec ext → answer_for i exec ext ≡ tabler_ending i exec ext
  started x = formed (three x) ∙ rw (lt-ltb i.pc p x.pc_word, lt-ltb i.fp p x.permitted.fp_word)

  start_refused : TablerStart i exec ext → tabler_start i exec ext ≡ Start
  start_refused x =
      by_test (λ (a : Answer). a ≡ Start) _
      (λ e. absurd (let h = each _ (_ ∷ []) e in x.bad (ltb-true i.pc p h.0) (ltb-true i.fp p h.1)))
      (λ e. refl)

  word_refused : (n k : ℕ) → n ≤ 2 → BadWord q n k → tabler_words i exec ext ≡ Word n k
  word_refused zero k h x = absurd (omega (arith, x.inside))
  word_refused (suc zero) k h x = word_at_lem q 1 _ x
  word_refused (suc (suc zero)) k h x = words_pass 1 i.program _ (x.parts_before 1 (omega arith)) ∙ word_at_lem q 2 _ x
  word_refused (suc (suc (suc n))) k h x = absurd (omega arith)

  -- the first step of a legal run is of an instruction of the program, so its pc is a word
  run_four : AcceptedRun i exec ext → TablerFour i exec ext
  run_four x =
      let some = many_steps x.legal in
      let first = (goes_only_if (x.legal.run.steps 0 (omega arith))).pc_in in
      let pc = ap (λ (s : State). s.pc) x.legal.run.begins in
      record {
        permitted = x.permitted;
        pc_word = omega (arith, few (length i.program) x.permitted.program_size);
        exec_size = rw x.rows x.legal.permitted;
        ext_size = rw x.ext_rows x.spare.permitted;
      }

  run_accepted : AcceptedRun i exec ext → answer_for i exec ext ≡ Accepted
  run_accepted x =
      let four = run_four x in
      let height : rows_in exec ≡ x.height = omega (arith, x.rows) in
      let ext_height : ext_rows_in ext ≡ x.ext_height = omega (arith, x.ext_rows) in
      started four
      ∙ rw (height, ext_height)
      (ending_accepts (machine i) (start_of i) x.height x.ext_height (omega (arith, some_room i exec ext four)) (omega (arith, many_steps x.legal))
      x.legal.run x.spare.room)

  pub tells_only : (a : Answer) → Tells i exec ext a → answer_for i exec ext ≡ a
  unfolding Tells table_of
  tells_only (Ok o) x = run_accepted x
  tells_only (Err (refusal.Size n place)) x = size_refused q (tabler_words i exec ext) n place x ∙ ap (Size n) (sym x.unnamed)
  tells_only (Err (refusal.Word n k)) x = sized x.bad.sizes ∙ word_refused n k x.part x.bad
  tells_only (Err (refusal.Instruction k)) x =
      read x.two
      ∙ refusing (instructions_read (given i.program []) (tables_of q)) (given i.program []).count Instruction (tabler_start i exec ext) k
      x.inside x.before x.bad
  tells_only (Err refusal.Start) x = formed x.three ∙ start_refused x
  tells_only (Err (refusal.Exec r n expected found)) x = absurd x
  tells_only (Err (refusal.Extension r n expected found)) x = absurd x
  tells_only (Err (refusal.Bus n r)) x = absurd x
  tells_only (Err (refusal.Label place)) x = absurd x
  tells_only (Err (refusal.Stuck r reason)) x =
      started x.four
      ∙ ending_stuck (machine i) (start_of i) (rows_in exec) (ext_rows_in ext) (some_room i exec ext x.four) r x.inside x.before x.bad
  tells_only (Err (refusal.Room r)) x =
      started x.four
      ∙ ending_room (machine i) (start_of i) (rows_in exec) (ext_rows_in ext) (some_room i exec ext x.four) r x.inside x.before x.steps x.bad
  tells_only (Err (refusal.Open r)) x =
      started x.four
      ∙ ending_open (machine i) (start_of i) (rows_in exec) (ext_rows_in ext) (some_room i exec ext x.four) x.all x.bad
      ∙ ap Open (sym x.place)
  tells_only (Err refusal.Buffer) x = absurd x
  tells_only (Err refusal.Grid) x = absurd x
  tells_only (Err (refusal.Edition place)) x = absurd x
  tells_only (Err (refusal.Listing place)) x = absurd x
  tells_only (Err (refusal.Short place)) x = absurd x
  tells_only (Err refusal.Host) x = absurd x
  tells_only (Err (refusal.ListShort place)) x = absurd x

  -- the tabler gives an answer exactly where what it tells is so
  pub tells_exactly : (a : Answer) → (answer_for i exec ext ≡ a) ↔ Tells i exec ext a
  tells_exactly a = (λ e. subst (Tells i exec ext) e (told i exec ext), tells_only a)

  -- so no two answers hold of what it is handed
  pub tells_one : (a b : Answer) → Tells i exec ext a → Tells i exec ext b → a ≡ b
  tells_one a b x y = sym (tells_only a x) ∙ tells_only b y
