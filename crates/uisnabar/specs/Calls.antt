-- Document 01, "Draws, recipe, label", its last paragraph, and document 02, M-103: what judge and label reader
-- return to C, and every byte they leave.
-- Declared in src/: Recipe (label).
use Rattle.std.specs.Prelude.{ℕ, ◌/◌, ◌%◌, ◌^◌, ◌≡◌, Bool, cond, ◌&&◌, List, [], ◌∷◌, eqb, length}
use Rattle.rows.specs.Rows.{put_row}
use Rattle.answer.specs.Verdicts.{accepted}
use Rattle.answer.specs.Answers.{Answer}
use Rattle.judge_spec.specs.Judged.{judge_of}
use Rattle.answer.specs.Answers.{Buffer}
use Rattle.label.specs.declared.Recipe.{Recipe}
use Rattle.label.specs.Reading.{Reading, Reads}
use Rattle.reply.specs.Reply.{answer_bytes, verdict_of, answer_words}

-- the judge's answer to what a call hands in
abbrev pub answer_to : List ℕ → List ℕ → ℕ → ℕ → List ℕ → List ℕ → Answer
answer_to program memory pc fp exec ext =
    judge_of (record { program = program; memory = memory; exec = exec; ext = ext; pc = pc; fp = fp })

-- seed (8 bytes), m, n and version (4 each)
abbrev pub recipe_words : Recipe → List ℕ
recipe_words r = r.seed % 2 ^ 32 ∷ r.seed / 2 ^ 32 ∷ r.m ∷ r.n ∷ r.version ∷ []

-- five words
abbrev pub recipe_bytes : ℕ
recipe_bytes = 20

-- ANSWER covers either buffer
abbrev pub both_fit : List ℕ → List ℕ → Bool
both_fit answer recipe = eqb (length answer) answer_bytes && eqb (length recipe) recipe_bytes

-- a buffer of a size where a test holds and as it was where it doesn't
abbrev pub held : Bool → ℕ → List ℕ → List ℕ → List ℕ
held fit size old words = cond fit (put_row old size words) old

-- a call of the label reader: the recipe is written only on acceptance, and ANSWER writes nothing anywhere
pub record LabelCall (text answer recipe answerAfter recipeAfter : List ℕ) (returned : ℕ) : Type 0 where
  pub reading : Reading
  pub reads : Reads text reading
  pub verdict : returned ≡ cond (both_fit answer recipe) (verdict_of reading.answer) (verdict_of Buffer)
  pub answered : answerAfter ≡ held (both_fit answer recipe) answer_bytes answer (answer_words reading.answer)
  pub written : recipeAfter ≡ held (both_fit answer recipe && accepted reading.answer) recipe_bytes recipe (recipe_words reading.recipe)
