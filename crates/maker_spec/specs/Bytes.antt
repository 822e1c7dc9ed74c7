-- Document 01, "Draws, recipe, label" and "Verdicts" SIZE parts 0 to 2: the maker's answer, and both buffers at return.
-- Declared in src/: Recipe (label).
use Rattle.std.specs.Prelude.{Bool, cond, ◌&&◌, List, ℕ, ◌+◌, ◌*◌, ◌^◌, length, get_or, eqb}
use Rattle.word.specs.Bytes.{bytes_of, concatenated}
use Rattle.form.specs.Instruction.{instruction_words}
use Rattle.answer.specs.Answers.{Answer, Accepted, Size}
use Rattle.label.specs.Label.{ranged}
use Rattle.label.specs.declared.Recipe.{Recipe}
use Rattle.maker_draws.specs.Drawn.{Draws, draws_of}
use Rattle.maker_spec.specs.Made.{Profile, flat, instruction_made, cell_of}

-- four bytes for each word
abbrev pub word_bytes : List ℕ → List ℕ
word_bytes words = concatenated (λ k. bytes_of (get_or words k 0)) (length words)

-- the first k instructions, of which n are drawn, and the first k cells
abbrev pub instructions_of : Profile → Draws → ℕ → ℕ → List ℕ
instructions_of profile d n k = concatenated (λ i. word_bytes (instruction_words (instruction_made profile d n i))) k

abbrev pub cells_of : Profile → Draws → ℕ → ℕ → List ℕ
cells_of profile d n k = concatenated (λ j. bytes_of (cell_of profile d n j)) k

-- what is drawn for a recipe, as its version has it (document 02, M-103), and the two buffers that it makes; every
-- recipe is flat
abbrev pub recipe_draws : Recipe → Draws
recipe_draws r = draws_of r.version r.seed

abbrev pub program_of : Recipe → List ℕ
program_of r = instructions_of flat (recipe_draws r) r.n (r.n + 1)

abbrev pub memory_of : Recipe → List ℕ
memory_of r = cells_of flat (recipe_draws r) r.n (2 ^ r.m)

-- parts 0, 1 and 2, the lowest that fails
abbrev pub sizes_fit : Recipe → ℕ → ℕ → Bool
sizes_fit r program memory = ranged r && eqb program (48 * (r.n + 1)) && eqb memory (4 * 2 ^ r.m)

unfoldable pub make_of : Recipe → ℕ → ℕ → Answer
make_of r program memory =
    cond (ranged r)
    (cond (eqb program (48 * (r.n + 1))) (cond (eqb memory (4 * 2 ^ r.m)) Accepted (Size 2 0)) (Size 1 0))
    (Size 0 0)

-- what a buffer holds at return: all of it is filled, and refusals change no byte
abbrev pub program_after : Recipe → List ℕ → List ℕ → List ℕ
program_after r program memory = cond (sizes_fit r (length program) (length memory)) (program_of r) program

abbrev pub memory_after : Recipe → List ℕ → List ℕ → List ℕ
memory_after r program memory = cond (sizes_fit r (length program) (length memory)) (memory_of r) memory
