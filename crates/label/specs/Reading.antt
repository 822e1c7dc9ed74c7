-- Document 01, "Verdicts", row LABEL, and "Draws, recipe, label": what reading a text owes, against valid labels of
-- either version. Nothing here says how a reader goes.
-- Declared in src/: Refusal (answer); Recipe (here).
use Rattle.std.specs.Prelude.{ℕ, Result, Ok, Err, List, ◌⊎◌, ◌≡◌}
use Rattle.answer.specs.declared.Refusal.{Refusal}
use Rattle.answer.specs.Answers.{Answer, Accepted, Label}
use Rattle.text_patterns.specs.Place.{Place}
use Rattle.label.specs.declared.Recipe.{Recipe}
use Rattle.label.specs.Label.{InRange, no_recipe, label_of}

-- what reading a text finds: the recipe where the answer is Accepted, else all 0
pub record Reading : Type 0 where
  pub answer : Answer
  pub recipe : Recipe

-- of a call that gives the recipe where it is accepted
abbrev pub reading_of : Result Recipe Refusal → Reading
reading_of (Ok r) = record { answer = Accepted; recipe = r }
reading_of (Err r) = record { answer = Err r; recipe = no_recipe }

-- a text is valid if it is the label of a recipe
abbrev pub Valid : List ℕ → Type 0
Valid text = (r : Recipe) × InRange r × (label_of r ≡ text)

-- the recipe whose label the text is
pub record Accepts (text : List ℕ) (r : Reading) : Type 0 where
  pub answer : r.answer ≡ Accepted
  pub range : InRange r.recipe
  pub label : label_of r.recipe ≡ text

-- no recipe's label is the text: the place, and a recipe of zeros
pub record Refuses (text : List ℕ) (r : Reading) : Type 0 where
  pub place : ℕ
  pub answer : r.answer ≡ Label place
  pub invalid : Valid text → ⊥
  pub nearest : Place Valid text place
  pub recipe : r.recipe ≡ no_recipe

-- the reader's promise
abbrev pub Reads : List ℕ → Reading → Type 0
Reads text r = Accepts text r ⊎ Refuses text r
