-- What draws make, as bytes: permitted, and its run's tables accepted.
-- Assumes nothing.
use mathlib.Core.Path.{◌≡◌, sym, ap, subst, ◌∙◌}
use mathlib.Core.List.{List}
use Prim.Native.Nat.{ℕ, ◌+◌, ◌*◌, ◌/◌, ◌%◌, ◌^◌, ◌≤◌, ◌<◌, ◌-◌}
use native.Mathlib.Omega.{arith}
use lib.Dec.{T, lit<}
use lib.ListN.{length, get_or}
use lib.Pow.{pow_mono}
use Rattle.answer.specs.Answers.{Accepted}
use Rattle.word.specs.Word.{IsWord}
use Rattle.word.proofs.Tests.{from_true}
use Rattle.form.specs.Form.{decode_of, well_formed}
use Rattle.form.specs.Instruction.{instruction_at, instruction_words}
use Rattle.form.specs.declared.Instruction.{Instruction}
use Rattle.form_bytes.proofs.ReadBack.{written, instruction_read}
use Rattle.rules.specs.Sizes.{program_fits, memory_fits, exec_fits, ext_fits}
use Rattle.rules.specs.Satisfies.{Words}
use Rattle.rules.proofs.Programs.{written_fits, written_words}
use Rattle.judge_spec.proofs.Lengths.{whole, power_passes}
use Rattle.tables.specs.Machine.{form_in}
use Rattle.maker_draws.specs.Drawn.{Draws}
use Rattle.maker_spec.specs.Made.{Drawable, Profile, instruction_made}
use Rattle.maker_spec.specs.Bytes.{instructions_of, cells_of}
use Rattle.maker_law.proofs.WellFormed.{well_formed_lem, program_words}
use Rattle.maker_law.proofs.ReadBack.{as_written, program_length, cells_length, cell_read, memory_word}
use Rattle.run.specs.Runs.{machine, Permitted, LegalRun, Spare, JudgeAccepts}
use Rattle.run.specs.Tabler.{answer_for, exec_left, ext_left}
use Rattle.run.proofs.Tabler.{run_accepted, own_bytes}
use Rattle.maker_run.specs.Runs.{input_made, state_made, MadeRun}
use Rattle.maker_run.proofs.OnMachine as run

memory_fits_lem : (m : ℕ) → 10 ≤ m → m ≤ 29 → T (memory_fits (4 * 2 ^ m))
memory_fits_lem m low high =
    let rest : 4 * 2 ^ m % 4 ≡ 0 = omega arith in
    let number : 4 * 2 ^ m / 4 ≡ 2 ^ m = omega arith in
    rw (rest, number) (power_passes m 8 29 (omega arith) high)

module _ (profile : Profile) (d : Draws) (is : Drawable d) (n m : ℕ) (few : n ≤ 124) (low : 10 ≤ m) (high : m ≤ 29) where
  wide : 1024 ≤ 2 ^ m
  wide = pow_mono low

  -- the program, as it is written
  program : instructions_of profile d n (n + 1) ≡ written (instruction_made profile d n) (n + 1)
  program = as_written profile d n (n + 1)

  words : (i : ℕ) → i < n + 1 → (j : ℕ) → IsWord (get_or (instruction_words (instruction_made profile d n i)) j 0)
  words i h = program_words profile d is n few i (omega arith)

  instruction_at_lem : (i : ℕ) → i < n + 1 → instruction_at (instructions_of profile d n (n + 1)) (48 * i) ≡ instruction_made profile d n i
  instruction_at_lem i h =
      ap (λ (bytes : List ℕ). instruction_at bytes (48 * i)) program
      ∙ instruction_read (instruction_made profile d n) (n + 1) i h (λ j. omega (arith, words i h j))

  count : length (instructions_of profile d n (n + 1)) / 48 ≡ n + 1
  count = omega (arith, program_length profile d n (n + 1))

  size : length (cells_of profile d n (2 ^ m)) / 4 ≡ 2 ^ m
  size = omega (arith, cells_length profile d n (2 ^ m))

  holds : run.Holds profile d n (machine (input_made profile d n m))
  holds =
      record {
        count = count;
        room = omega (arith, wide, size);
        forms = λ i h. ap (λ (x : Instruction). form_in (decode_of x)) (instruction_at_lem i (omega arith));
        cells = λ k h. cell_read profile d n is (2 ^ m) k (omega (arith, wide));
      }

  permitted : Permitted (input_made profile d n m)
  permitted =
      record {
        program_size =
            subst (λ (bytes : List ℕ). T (program_fits (length bytes))) (sym program)
            (from_true _ (written_fits (instruction_made profile d n) (n + 1) (omega arith) (omega arith)));
        memory_size = subst (λ (x : ℕ). T (memory_fits x)) (sym (cells_length profile d n (2 ^ m))) (memory_fits_lem m low high);
        program_words = subst Words (sym program) (written_words (instruction_made profile d n) (n + 1) words);
        memory_words = λ k h. memory_word profile d n is (2 ^ m) k (omega (arith, cells_length profile d n (2 ^ m)));
        instructions =
            λ k h.
            subst (λ (x : Instruction). T (well_formed x)) (sym (instruction_at_lem k (omega (arith, count))))
            (rw (well_formed_lem profile d n k) tt);
        fp_word = lit< tt;
      }

  legal : (height : ℕ) → T (exec_fits (32 * height)) → LegalRun (input_made profile d n m) height (state_made profile d n)
  legal height fits =
      record {
        permitted = fits;
        run =
            run.staying profile d is n few (machine (input_made profile d n m)) holds (height - 1)
            (omega (arith, (whole (32 * height) 32 25 fits).number.least));
      }

  spare : (height ext_height : ℕ) → T (ext_fits (120 * ext_height)) → Spare (input_made profile d n m) height ext_height (state_made profile d n)
  spare height ext_height fits =
      record {
        permitted = fits;
        room =
            omega (
              arith,
              run.filled_most profile d is n few (machine (input_made profile d n m)) holds height,
              (whole (120 * ext_height) 120 20 fits).number.least,
            );
      }

  module _ (exec ext : List ℕ) (exec_fits_lem : T (exec_fits (length exec))) (ext_fits_lem : T (ext_fits (length ext))) where
    rows : length exec ≡ 32 * (length exec / 32)
    rows = omega (arith, (whole (length exec) 32 25 exec_fits_lem).whole)

    ext_rows : length ext ≡ 120 * (length ext / 120)
    ext_rows = omega (arith, (whole (length ext) 120 20 ext_fits_lem).whole)

    tabled : answer_for (input_made profile d n m) exec ext ≡ Accepted
    tabled =
        run_accepted (input_made profile d n m) permitted (length exec / 32) (length ext / 120) (state_made profile d n)
        (legal (length exec / 32) (subst (λ (x : ℕ). T (exec_fits x)) rows exec_fits_lem))
        (spare (length exec / 32) (length ext / 120) (subst (λ (x : ℕ). T (ext_fits x)) ext_rows ext_fits_lem)) exec ext rows ext_rows

    judged : (let i = input_made profile d n m in JudgeAccepts i (exec_left i exec ext) (ext_left i exec ext))
    judged = own_bytes (input_made profile d n m) exec ext tabled

  pub made_run : MadeRun (input_made profile d n m) n (state_made profile d n)
  made_run =
      record {
        permitted = permitted;
        begins = run.begins profile d is n few (machine (input_made profile d n m)) holds;
        steps = run.steps profile d is n few (machine (input_made profile d n m)) holds;
        stays = run.stays profile d is n few (machine (input_made profile d n m)) holds n (omega arith);
        lengths = run.filled_most profile d is n few (machine (input_made profile d n m)) holds;
        legal = legal;
        spare = spare;
        tabled = tabled;
        judged = judged;
      }
