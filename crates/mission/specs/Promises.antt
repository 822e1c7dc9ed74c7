-- The mission speaks of entries; document 01, "What the contracts owe". Each entry's promise over what is handed in:
-- what outcomes keep it. An outcome is the answer beside each lent buffer at return. That these are the promises of the
-- sources is proved too, but for the programs (proofs/Contracts).
-- Declared in src/: Recipe (label).
use Rattle.std.specs.Prelude.{◌≡◌, List, ℕ, ◌≤◌, length}
use Rattle.answer.specs.Verdicts.{numbers_of}
use Rattle.answer.specs.Answers.{Answer}
use Rattle.label.specs.Writing.{Written, written, buffered}
use Rattle.label.specs.declared.Recipe.{Recipe}
use Rattle.label.specs.Reading.{Reading}
use Rattle.maker_spec.specs.Bytes.{make_of, program_after, memory_after}
use Rattle.rules.specs.Sizes.{Parts}
use Rattle.judge_spec.specs.Judged.{judge_of}
use Rattle.run.specs.Runs.{Input}
use Rattle.run.specs.Tabler.{answer_for, exec_left, ext_left}
use Rattle.reply.specs.Reply.{returned, replied}
use Rattle.uisnabar.specs.Calls.{answer_to, LabelCall}
use Rattle.program_build.specs.Output.{Outputs}

-- a refusal is every verdict but 0
abbrev pub IsRefusal : Answer → Type 0
IsRefusal a = 1 ≤ (numbers_of a).verdict

-- `judge::judge`; it is lent nothing to write in
abbrev pub JudgePromise : Parts → Answer → Type 0
JudgePromise q answer = answer ≡ judge_of q

-- `tabler::table`: the answer and both tables
abbrev pub TablerPromise : Input → List ℕ → List ℕ → Answer × List ℕ × List ℕ → Type 0
TablerPromise i exec ext x = (x.0 ≡ answer_for i exec ext) × (x.1 ≡ exec_left i exec ext) × (x.2 ≡ ext_left i exec ext)

-- `maker::make`: the answer, the program and the memory
abbrev pub MakerPromise : Recipe → List ℕ → List ℕ → Answer × List ℕ × List ℕ → Type 0
MakerPromise r program memory x =
    (x.0 ≡ make_of r (length program) (length memory)) × (x.1 ≡ program_after r program memory) × (x.2 ≡ memory_after r program memory)

-- `label::write_label`: the answer with the length written, and the buffer; `label::read_label` promises `Reads`
abbrev pub WriterPromise : Recipe → List ℕ → Written × List ℕ → Type 0
WriterPromise r buffer x = (x.0 ≡ written r (length buffer)) × (x.1 ≡ buffered r buffer)

-- `uisnabar_judge`: the number returned and the answer's buffer
abbrev pub JudgeCall : Parts → List ℕ → ℕ × List ℕ → Type 0
JudgeCall q buffer x =
    let answer = answer_to q.program q.memory q.pc q.fp q.exec q.ext in
    (x.0 ≡ returned answer buffer) × (x.1 ≡ replied answer buffer)

-- `uisnabar_label`: the number returned, the answer's buffer and the recipe's
abbrev pub ReaderCall : List ℕ → List ℕ → List ℕ → ℕ × List ℕ × List ℕ → Type 0
ReaderCall text answer recipe x = LabelCall text answer recipe x.1 x.2 x.0

-- the two programs, by what they write for a reading: how many bytes, and the buffer
abbrev pub ProgramPromise : (Reading → List ℕ) → List ℕ → List ℕ → ℕ × List ℕ → Type 0
ProgramPromise output text buffer x = Outputs output text buffer x.1 x.0
