-- Document 02, M-108: what the finder writes, a row and a bound t, 4 bytes each, for every find, in row order.
-- Whether three rows are a find is asked of the words of their instructions (document 01, "Well-formed instructions");
-- that the finds of an accepted table are its range checks, each of them and nothing else, is `range_law`'s theorem.
-- Declared in src/: Instruction (form).
use Rattle.std.specs.Prelude.{ℕ, ◌+◌, ◌-◌, Bool, cond, ◌&&◌, List, [], ◌∷◌, eqb}
use Rattle.word.specs.Bytes.{concatenated}
use Rattle.form.specs.Form.{is_add, is_deref}
use Rattle.form.specs.declared.Instruction.{Instruction}
use Rattle.rows.specs.Rows.{bytes_of_words}
use Rattle.rules.specs.Given.{Given, Tables}
use Rattle.rules.specs.Bus.{total, instruction_of}

-- DEREF, A is x and β is 0
abbrev pub derefs : ℕ → Instruction → Bool
derefs x i = is_deref i && eqb i.a x && eqb i.b 0

-- ADD, A and C are cells and B is an immediate
abbrev pub adds : Instruction → Bool
adds i = is_add i && eqb i.fa 0 && eqb i.fb 1 && eqb i.fc 0 && eqb i.fpc 0

-- x is the ADD's A, and j is its C
abbrev pub checks : Instruction → Instruction → Instruction → Bool
checks first second last = derefs second.a first && adds second && derefs second.c last

unfoldable pub found_at : Given → Tables → ℕ → Bool
found_at g t r = checks (instruction_of g t r) (instruction_of g t (r + 1)) (instruction_of g t (r + 2))

-- the ADD's B, plus 1
unfoldable pub bound_at : Given → Tables → ℕ → ℕ
bound_at g t r = (instruction_of g t (r + 1)).b + 1

-- what is written for row r
abbrev pub find_bytes : Given → Tables → ℕ → List ℕ
find_bytes g t r = cond (found_at g t r) (bytes_of_words (r ∷ bound_at g t r ∷ [])) []

-- of the first n rows, as bytes and as a number
abbrev pub finds_below : Given → Tables → ℕ → List ℕ
finds_below g t n = concatenated (find_bytes g t) n

abbrev pub number_below : Given → Tables → ℕ → ℕ
number_below g t n = total (λ r. cond (found_at g t r) 1 0) n

-- two rows follow the first
abbrev pub first_rows : Tables → ℕ
first_rows t = t.height - 2

unfoldable pub all_finds : Given → Tables → List ℕ
all_finds g t = finds_below g t (first_rows t)

unfoldable pub finds_number : Given → Tables → ℕ
finds_number g t = number_below g t (first_rows t)
