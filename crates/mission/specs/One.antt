-- The mission, demand 1: "Nothing handed in may crash it, hang it or be trusted. Program, memory, tables, labels and
-- start state are judged by the entry that receives them; each refusal has one number, one place and one stated effect
-- on the buffers." Document 01, "Verdicts" and "What the contracts owe".
-- That nothing crashes or hangs is what a proved function means, and an entry has no `requires` (tests/contracts.py),
-- so it takes whatever is handed in. What is left is here: each promise admits one outcome, six numbers name one
-- answer, and what each refusal does to the buffers. What a refusal says, and so its one place, is demand 2 for judge
-- and label, demand 3 for the tabler.
-- Declared in src/: Refusal (answer); Recipe (label).
use Rattle.std.specs.Prelude.{◌≡◌, ◌⊎◌, List, ℕ, ◌≤◌, length, replicate, Result}
use Rattle.reply.specs.Reply.{answer_bytes}
use Rattle.answer.specs.Determined.{Determined}
use Rattle.answer.specs.Verdicts.{numbers_of}
use Rattle.answer.specs.Answers.{Answer}
use Rattle.answer.specs.declared.Refusal.{Refusal}
use Rattle.label.specs.Label.{no_recipe}
use Rattle.label.specs.Reading.{Reading, reading_of, Reads}
use Rattle.label.specs.Writing.{written_by, written, buffered}
use Rattle.label.specs.declared.Recipe.{Recipe}
use Rattle.maker_spec.specs.Bytes.{make_of, program_after, memory_after}
use Rattle.rules.specs.Sizes.{Parts}
use Rattle.run.specs.Runs.{Input}
use Rattle.uisnabar.specs.Calls.{recipe_bytes}
use Rattle.run.specs.Tabler.{answer_for, exec_left, ext_left}
use Rattle.mission.specs.Promises.{
  IsRefusal,
  JudgePromise,
  TablerPromise,
  MakerPromise,
  WriterPromise,
  JudgeCall,
  ReaderCall,
  ProgramPromise,
}

pub record DemandOne : Type 0 where
  -- whatever is handed in, no two outcomes keep the entry's promise: the answer and every lent byte are determined
  pub judge_one : (q : Parts) → Determined (JudgePromise q)
  pub tabler_one : (i : Input) (exec ext : List ℕ) → Determined (TablerPromise i exec ext)
  pub maker_one : (r : Recipe) (program memory : List ℕ) → Determined (MakerPromise r program memory)
  pub reader_one : (text : List ℕ) → Determined (Reads text)
  pub writer_one : (r : Recipe) (buffer : List ℕ) → Determined (WriterPromise r buffer)
  -- these two speak of a record of what is returned: of the `Result` that `label::read_label` and `label::write_label`
  -- return themselves, no two keep the promise either
  pub read_label_one : (text : List ℕ) → Determined (λ (z : Result Recipe Refusal). Reads text (reading_of z))
  pub write_label_one : (r : Recipe) (buffer : List ℕ)
      → Determined (λ (x : Result ℕ Refusal × List ℕ). WriterPromise r buffer (written_by x.0, x.1))
  pub judge_call_one : (q : Parts) (buffer : List ℕ) → Determined (JudgeCall q buffer)
  pub reader_call_one : (text answer recipe : List ℕ) → Determined (ReaderCall text answer recipe)
  pub program_one : (output : Reading → List ℕ) (text buffer : List ℕ) → Determined (ProgramPromise output text buffer)
  -- the reader's promise is no equation, so that it can be kept is said apart: every text has a reading
  pub reader_some : (text : List ℕ) → (r : Reading) × Reads text r
  -- each refusal has one number: six numbers name one answer
  pub one_number : (a b : Answer) → numbers_of a ≡ numbers_of b → a ≡ b
  -- and 12 is no answer's: it was SELF's, and isn't used again (document 02, M-107)
  pub no_twelve : (a : Answer) → (numbers_of a).verdict ≡ 12 → ⊥
  -- the tabler: verdicts 1 to 4 change no buffer; 9, 10 and 11 leave both tables all zero
  pub tabler_keeps : (i : Input) (exec ext : List ℕ)
      → 1 ≤ (numbers_of (answer_for i exec ext)).verdict
      → (numbers_of (answer_for i exec ext)).verdict ≤ 4
      → (exec_left i exec ext ≡ exec) × (ext_left i exec ext ≡ ext)
  pub tabler_zeroes : (i : Input) (exec ext : List ℕ)
      → 9 ≤ (numbers_of (answer_for i exec ext)).verdict
      → (numbers_of (answer_for i exec ext)).verdict ≤ 11
      → (exec_left i exec ext ≡ replicate (length exec) 0) × (ext_left i exec ext ≡ replicate (length ext) 0)
  -- the maker, and the writer of a label, change no byte where they refuse; the writer's length is 0 then
  pub maker_keeps : (r : Recipe) (program memory : List ℕ) → IsRefusal (make_of r (length program) (length memory))
      → (program_after r program memory ≡ program) × (memory_after r program memory ≡ memory)
  pub writer_keeps : (r : Recipe) (buffer : List ℕ) → IsRefusal (written r (length buffer)).answer
      → ((written r (length buffer)).length ≡ 0) × (buffered r buffer ≡ buffer)
  -- a refused label reads as version, seed, m and n all 0
  pub reader_zeroes : (text : List ℕ) (r : Reading) → Reads text r → IsRefusal r.answer → r.recipe ≡ no_recipe
  -- ANSWER, 13, for an answer buffer of another length than 24, and for either buffer of the label's call: nothing is
  -- written
  pub judge_call_answer : (q : Parts) (buffer : List ℕ) (x : ℕ × List ℕ) → JudgeCall q buffer x → (length buffer ≡ answer_bytes → ⊥)
      → (x.0 ≡ 13) × (x.1 ≡ buffer)
  pub reader_call_answer : (text answer recipe : List ℕ) (x : ℕ × List ℕ × List ℕ) → ReaderCall text answer recipe x
      → (length answer ≡ answer_bytes → ⊥) ⊎ (length recipe ≡ recipe_bytes → ⊥)
      → (x.0 ≡ 13) × (x.1 ≡ answer) × (x.2 ≡ recipe)
  -- the label's call writes the recipe only on acceptance
  pub reader_call_keeps : (text answer recipe : List ℕ) (x : ℕ × List ℕ × List ℕ) → ReaderCall text answer recipe x → 1 ≤ x.0 → x.2 ≡ recipe
