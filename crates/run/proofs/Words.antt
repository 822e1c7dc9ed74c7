-- Parts whose words are below p have rows, instructions and cells of words.
-- Assumes nothing.
use mathlib.Core.Path.{◌≡◌}
use mathlib.Core.List.{List}
use Prim.Native.Nat.{ℕ, ◌+◌, ◌*◌, ◌/◌, ◌%◌, ◌≤◌, ◌<◌}
use native.Mathlib.Omega.{arith}
use lib.Dec.{T}
use lib.ListN.{length}
use Rattle.word.specs.Word.{IsWord}
use Rattle.word.specs.Bytes.{word_at}
use Rattle.word.specs.Element.{IsElement}
use Rattle.word.proofs.ElementLaws.{five_words_lem}
use Rattle.form.specs.Form.{well_formed}
use Rattle.form.specs.Instruction.{instruction_at}
use Rattle.rows.specs.Rows.{exec_at, ext_at, five_at}
use Rattle.rules.specs.Sizes.{Parts, program_fits, memory_fits, given_of, tables_of}
use Rattle.rules.specs.Satisfies.{Words, Satisfies}
use Rattle.run_steps.specs.Setting.{OperandWords, ExecWords, Fit}
use Rattle.run_groups.proofs.Meaning.{RowWords}
use Rattle.run_groups.proofs.Lengths.{ExtTable}
use Rattle.judge_spec.proofs.Lengths.{whole, few}

module _ (bytes : List ℕ) (words : Words bytes) where
  -- the word at every fourth byte
  pub word_at_lem : (at : ℕ) → at % 4 ≡ 0 → at + 4 ≤ length bytes → IsWord (word_at bytes at)
  word_at_lem at aligned room =
      let same : 4 * (at / 4) ≡ at = omega arith in
      rw same at (words (at / 4) (omega arith))

  pub exec_words_lem : (r : ℕ) → r < length bytes / 32 → ExecWords (exec_at bytes (32 * r))
  unfolding exec_at
  exec_words_lem r h =
      record {
        pc = word_at_lem (32 * r) (omega arith) (omega arith);
        fp = word_at_lem (32 * r + 4) (omega arith) (omega arith);
        addrA = word_at_lem (32 * r + 8) (omega arith) (omega arith);
        addrB = word_at_lem (32 * r + 12) (omega arith) (omega arith);
        addrC = word_at_lem (32 * r + 16) (omega arith) (omega arith);
        valueA = word_at_lem (32 * r + 20) (omega arith) (omega arith);
        valueB = word_at_lem (32 * r + 24) (omega arith) (omega arith);
        valueC = word_at_lem (32 * r + 28) (omega arith) (omega arith);
      }

  pub operand_words : (i : ℕ) → i < length bytes / 48 → OperandWords (instruction_at bytes (48 * i))
  unfolding instruction_at
  operand_words i h =
      record {
        a = word_at_lem (48 * i) (omega arith) (omega arith);
        b = word_at_lem (48 * i + 4) (omega arith) (omega arith);
        c = word_at_lem (48 * i + 8) (omega arith) (omega arith);
      }

  five : (at : ℕ) → at % 4 ≡ 0 → at + 20 ≤ length bytes → IsElement (five_at bytes at)
  unfolding five_at
  five at aligned room =
      five_words_lem (word_at_lem at aligned (omega arith)) (word_at_lem (at + 4) (omega arith) (omega arith)) (word_at_lem (at + 8) (omega arith) (omega arith))
      (word_at_lem (at + 12) (omega arith) (omega arith))
      (word_at_lem (at + 16) (omega arith) (omega arith))

  pub row_words : (r : ℕ) → r < length bytes / 120 → RowWords (ext_at bytes (120 * r))
  unfolding ext_at
  row_words r h =
      record {
        start = word_at_lem (120 * r) (omega arith) (omega arith);
        add = word_at_lem (120 * r + 4) (omega arith) (omega arith);
        mul = word_at_lem (120 * r + 8) (omega arith) (omega arith);
        peq = word_at_lem (120 * r + 12) (omega arith) (omega arith);
        len = word_at_lem (120 * r + 16) (omega arith) (omega arith);
        idxA = word_at_lem (120 * r + 20) (omega arith) (omega arith);
        idxB = word_at_lem (120 * r + 24) (omega arith) (omega arith);
        idxR = word_at_lem (120 * r + 28) (omega arith) (omega arith);
        be = word_at_lem (120 * r + 32) (omega arith) (omega arith);
        base = word_at_lem (120 * r + 36) (omega arith) (omega arith);
        vA = five (120 * r + 40) (omega arith) (omega arith);
        vB = five (120 * r + 60) (omega arith) (omega arith);
        comp = five (120 * r + 80) (omega arith) (omega arith);
        res = five (120 * r + 100) (omega arith) (omega arith);
      }

-- a program and a memory that pass verdicts 1 to 3 are such as the machine runs
pub fit_of : (q : Parts) → T (program_fits (length q.program)) → T (memory_fits (length q.memory)) → Words q.program → Words q.memory
    → ((i : ℕ) → i < (given_of q).count → T (well_formed ((given_of q).instruction i)))
    → Fit (given_of q)
fit_of q program memory program_words memory_words instructions =
    let cells = whole (length q.memory) 4 29 memory in
    record {
      few = few (length q.program) program;
      small = cells.number.most;
      some = omega (arith, cells.number.least);
      cells = memory_words;
      operands = operand_words q.program program_words;
      well_formed = instructions;
    }

module _ (q : Parts) (s : Satisfies q) where
  pub some_rows : 1 ≤ (tables_of q).height
  some_rows = omega (arith, (whole (length q.exec) 32 25 s.exec_size).number.least)

  pub fit : Fit (given_of q)
  fit = fit_of q s.program_size s.memory_size s.program_words s.memory_words s.instructions

  pub ext_table_lem : ExtTable (given_of q) (tables_of q).ext_height (tables_of q).ext
  ext_table_lem =
      record {
        few_rows = (whole (length q.ext) 120 20 s.ext_size).number.most;
        small_memory = fit.small;
        words = row_words q.ext s.ext_words;
        rules = s.constraints.extension;
      }
