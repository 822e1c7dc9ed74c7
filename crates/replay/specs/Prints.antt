-- Document 02, M-107: what the replay program prints, text by text, from its promise. Verdict 0, SIZE part 2 and LABEL
-- are all that there is.
-- Declared in src/: Recipe (label).
use Rattle.std.specs.Prelude.{◌≡◌, List, [], ◌∷◌, ◌++◌, ℕ}
use Rattle.answer.specs.Answers.{Accepted, Size, Label}
use Rattle.text_patterns.specs.Place.{Place}
use Rattle.label.specs.Label.{InRange, label_of}
use Rattle.label.specs.Reading.{Valid}
use Rattle.label.specs.declared.Recipe.{Recipe}
use Rattle.program_build.specs.Output.{Fills, Outputs}
use Rattle.replay.specs.Replay.{verdict_text, part_text, place_text, rule_text, expected_text, found_text, lines_of, replay_output}

-- 0 and LF
abbrev zero_end : List ℕ
zero_end = 48 ∷ 10 ∷ []

pub record Prints : Type 0 where
  -- every valid label with m = 10: itself, and verdict 0
  pub accepts : (r : Recipe) → InRange r → r.m ≡ 10 → (before after : List ℕ) (size : ℕ)
      → Outputs replay_output (label_of r) before after size
      → Fills (label_of r ++ lines_of Accepted) before after size
  -- with another m: itself, and SIZE part 2
  pub other_m : (r : Recipe) → InRange r → (r.m ≡ 10 → ⊥) → (before after : List ℕ) (size : ℕ)
      → Outputs replay_output (label_of r) before after size
      → Fills (label_of r ++ lines_of (Size 2 0)) before after size
  -- any other text: LABEL and its place, alone
  pub refuses : (text : List ℕ) → (Valid text → ⊥) → (before after : List ℕ) (size : ℕ)
      → Outputs replay_output text before after size
      → (place : ℕ) × Place Valid text place × Fills (lines_of (Label place)) before after size
  -- the six lines of verdict 0, byte for byte
  pub six_zeros : lines_of Accepted
      ≡ (verdict_text ++ zero_end ++ part_text ++ zero_end ++ place_text ++ zero_end ++ rule_text ++ zero_end ++ expected_text ++ zero_end ++ found_text ++ zero_end)
