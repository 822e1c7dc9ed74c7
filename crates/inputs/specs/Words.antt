-- Inner: words and instructions that all pass, and eight words from one on: what a search passes at once.
use Rattle.std.specs.Prelude.{ℕ, ◌+◌, ◌*◌, ◌/◌, ◌<◌, ◌≡◌, Bool, true, ◌&&◌, List, [], eqb, length}
use Rattle.form.specs.Form.{well_formed}
use Rattle.form.specs.Instruction.{instruction_at}
use Rattle.rules.specs.Sizes.{given}
use Rattle.judge_spec.specs.Judged.{is_word, first_word, first_malformed}

-- no word is at or above p
abbrev pub AllWords : List ℕ → Type 0
AllWords bytes = first_word bytes ≡ length bytes / 4

-- the same as a test
abbrev pub all_words : List ℕ → Bool
all_words bytes = eqb (first_word bytes) (length bytes / 4)

-- no instruction is malformed
abbrev pub WellFormed : List ℕ → Type 0
WellFormed program = (i : ℕ) → i < length program / 48 → well_formed (instruction_at program (48 * i)) ≡ true

-- no instruction is malformed and no word is at or above p
abbrev pub program_passes : List ℕ → Bool
program_passes program = eqb (first_malformed (given program [])) (length program / 48) && all_words program

-- the eight words from one on are below p
abbrev pub eight_words : List ℕ → ℕ → Bool
eight_words bytes k =
    is_word bytes k
    && is_word bytes (k + 1)
    && is_word bytes (k + 2)
    && is_word bytes (k + 3)
    && is_word bytes (k + 4)
    && is_word bytes (k + 5)
    && is_word bytes (k + 6)
    && is_word bytes (k + 7)
