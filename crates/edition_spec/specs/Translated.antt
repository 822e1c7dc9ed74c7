-- Document 02, M-102, and document 01, "Verdicts" SIZE and WORD: the answer to a program of draft 0.5.0, and the other
-- buffer at return.
-- Declared in src/: Encoded (edition_machine).
use Rattle.std.specs.Prelude.{Bool, ◌&&◌, cond, List, ℕ, ◌*◌, ◌/◌, ◌%◌, ◌^◌, leb, eqb, length}
use Rattle.word.specs.Bytes.{concatenated}
use Rattle.form.specs.Instruction.{instruction_words}
use Rattle.rows.specs.Rows.{bytes_of_words}
use Rattle.answer.specs.Verdicts.{accepted}
use Rattle.answer.specs.Answers.{Answer, Accepted, Size, Edition}
use Rattle.judge_spec.specs.First.{first}
use Rattle.judge_spec.specs.Judged.{refused, words}
use Rattle.edition_machine.specs.Encoding.{encoded_at}
use Rattle.edition_machine.specs.declared.Encoded.{Encoded}
use Rattle.edition_spec.specs.Translatable.{translatable}
use Rattle.edition_spec.specs.Translation.{translated}

-- instruction i of the old program, and how many there are
abbrev pub old_instruction : List ℕ → ℕ → Encoded
old_instruction old i = encoded_at old (56 * i)

abbrev pub old_count : List ℕ → ℕ
old_count old = length old / 56

-- 1 to 2^20 of them, and 48 bytes of output for each
abbrev pub lengths_fit : ℕ → ℕ → Bool
lengths_fit bytes room = eqb (bytes % 56) 0 && leb 1 (bytes / 56) && leb (bytes / 56) (2 ^ 20) && eqb room (48 * (bytes / 56))

-- the first instruction that is not translatable
abbrev pub first_untranslatable : List ℕ → ℕ
first_untranslatable old = first (λ i. translatable (old_instruction old i)) 0 (old_count old)

abbrev pub editions : List ℕ → Answer → Answer
editions old then = refused (first_untranslatable old) (old_count old) (Edition (first_untranslatable old)) then

-- the answer to a program and the room for its translation: SIZE part 1 for either length, WORD of 14 words an
-- instruction, EDITION
unfoldable pub translate_answer : List ℕ → ℕ → Answer
translate_answer old room = cond (lengths_fit (length old) room) (words 1 old (editions old Accepted)) (Size 1 0)

-- the translated program, 48 bytes an instruction
abbrev pub instruction_bytes : List ℕ → ℕ → List ℕ
instruction_bytes old i = bytes_of_words (instruction_words (translated (old_instruction old i)))

abbrev pub translated_program : List ℕ → List ℕ
translated_program old = concatenated (instruction_bytes old) (old_count old)

-- every byte is written on ACCEPTED, and none on a refusal
unfoldable pub program_left : List ℕ → List ℕ → List ℕ
program_left old program = cond (accepted (translate_answer old (length program))) (translated_program old) program
