-- The mission's second demand at the C boundary; document 01, "Draws, recipe, label", its last paragraph: what a driver
-- reads after a call of `uisnabar_judge` or `uisnabar_label` whose answer has 24 bytes and whose recipe has 20.
-- Declared in src/: Numbers (answer); Recipe (label).
use Rattle.std.specs.Prelude.{◌≡◌, ◌↔◌, List, ℕ, ◌+◌, ◌*◌, ◌^◌}
use Rattle.word.specs.Bytes.{word_at}
use Rattle.answer.specs.Verdicts.{numbers_of}
use Rattle.answer.specs.declared.Numbers.{Numbers}
use Rattle.answer.specs.Answers.{Answer}
use Rattle.rules.specs.Sizes.{Parts}
use Rattle.rules.specs.Satisfies.{Satisfies}
use Rattle.judge_spec.specs.Refusal.{Says}
use Rattle.label.specs.Reading.{Reading, Valid, Reads}
use Rattle.label.specs.declared.Recipe.{Recipe}

-- the six numbers in 24 bytes: verdict, part, place, rule, expected, found, each 4 bytes, little-endian
abbrev pub numbers_in : List ℕ → Numbers
numbers_in buffer =
    record {
      verdict = word_at buffer 0;
      part = word_at buffer 4;
      place = word_at buffer 8;
      rule = word_at buffer 12;
      expected = word_at buffer 16;
      found = word_at buffer 20;
    }

-- the number returned and the buffer after the call tell one answer, the one that holds of the four parts and the
-- start; and the number is 0 exactly where the tables satisfy the constraints of draft 0.6.0
pub record DriverReads (q : Parts) (number : ℕ) (buffer : List ℕ) : Type 0 where
  pub answer : Answer
  pub says : Says q answer
  pub alone : (other : Answer) → Says q other → other ≡ answer
  pub numbers : numbers_in buffer ≡ numbers_of answer
  pub verdict : number ≡ (numbers_of answer).verdict
  pub satisfies : (number ≡ 0) ↔ Satisfies q

-- the recipe in 20 bytes: seed (8 bytes), m, n and version (4 each), little-endian
abbrev pub recipe_in : List ℕ → Recipe
recipe_in buffer =
    record {
      seed = word_at buffer 0 + 2 ^ 32 * word_at buffer 4;
      m = word_at buffer 8;
      n = word_at buffer 12;
      version = word_at buffer 16;
    }

-- the number returned and both buffers after the call tell the text's one reading: 0 exactly where the text is a valid
-- label, and then the recipe whose label it is, all 64 bits of its seed
pub record DriverReadsLabel (text : List ℕ) (number : ℕ) (answer recipe : List ℕ) : Type 0 where
  pub reading : Reading
  pub reads : Reads text reading
  pub numbers : numbers_in answer ≡ numbers_of reading.answer
  pub verdict : number ≡ (numbers_of reading.answer).verdict
  pub valid : (number ≡ 0) ↔ Valid text
  pub recipe_read : number ≡ 0 → recipe_in recipe ≡ reading.recipe
