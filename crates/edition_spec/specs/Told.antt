-- Document 02, M-102, and document 01, "Verdicts" SIZE and WORD: what each answer says of a program of draft 0.5.0 and
-- of the room for its translation. Each says that the tests before it passed; there is no other answer.
use Rattle.std.specs.Prelude.{◌≡◌, List, ℕ, ◌*◌, ◌/◌, ◌%◌, ◌^◌, ◌≤◌, ◌<◌, length}
use Rattle.word.specs.Word.{p, IsWord}
use Rattle.answer.specs.Answers.{Answer, Accepted, Size, Word, Edition}
use Rattle.rules.specs.Sizes.{word_of}
use Rattle.rules.specs.Satisfies.{Words}
use Rattle.edition_spec.specs.Translatable.{Reason}
use Rattle.edition_spec.specs.Translated.{old_instruction, old_count}

-- lengths in bytes that are right: whole instructions of 56, 1 to 2^20 of them, and exactly 48 for each
pub record Lengths (bytes room : ℕ) : Type 0 where
  pub whole : bytes % 56 ≡ 0
  pub least : 1 ≤ bytes / 56
  pub most : bytes / 56 ≤ 2 ^ 20
  pub output : room ≡ 48 * (bytes / 56)

module _ (old : List ℕ) (room : ℕ) where
  abbrev pub Fit : Type 0
  Fit = Lengths (length old) room

  -- the first word at or above p, of 14 to an instruction
  pub record WordAt (k : ℕ) : Type 0 where
    pub fit : Fit
    pub before : (j : ℕ) → j < k → IsWord (word_of old j)
    pub inside : k < length old / 4
    pub bad : p ≤ word_of old k

  -- the first instruction that has a reason
  pub record EditionAt (i : ℕ) : Type 0 where
    pub fit : Fit
    pub words : Words old
    pub before : (j : ℕ) → j < i → Reason (old_instruction old j) → ⊥
    pub inside : i < old_count old
    pub reason : Reason (old_instruction old i)

  -- none has one
  pub record Translates : Type 0 where
    pub fit : Fit
    pub words : Words old
    pub each : (i : ℕ) → i < old_count old → Reason (old_instruction old i) → ⊥

  pub data Tells : Answer → Type 0 where
    of_size : (Fit → ⊥) → Tells (Size 1 0)
    of_word : (k : ℕ) → WordAt k → Tells (Word 1 k)
    of_edition : (i : ℕ) → EditionAt i → Tells (Edition i)
    of_accepted : Translates → Tells Accepted
