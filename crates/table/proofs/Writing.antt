-- What is written for a reading.
-- Assumes nothing.
use Prim.Native.Nat.{ℕ}
use mathlib.Core.Bool.{true, false}
use mathlib.Core.List.{List}
use mathlib.Core.Path.{◌≡◌, refl}
use borrow.Author.Tests.{eq-eqb, ne_eqb}
use Rattle.std.specs.Prelude.{Result, Ok, Err}
use Rattle.answer.specs.declared.Refusal.{Refusal}
use Rattle.answer.specs.Verdicts.{accepted}
use Rattle.answer.proofs.Named.{refusal_not_accepted}
use Rattle.label.specs.declared.Recipe.{Recipe}
use Rattle.label.specs.Reading.{Reading, Reads, reading_of}
use Rattle.program_build.specs.Output.{Fills, Outputs}
use Rattle.program_build.specs.Recipes.{four_parts}
use Rattle.program_build.proofs.Output.{fills_nothing}
use Rattle.table.specs.Table.{table_output}

-- a text that gives no recipe is refused
pub not_read : (w : Result Recipe Refusal) → ((r : Recipe) → w ≡ Ok r → ⊥) → accepted (reading_of w).answer ≡ false
not_read (Ok r) none = absurd (none r refl)
not_read (Err e) none = refusal_not_accepted e

module _ (text out : List ℕ) (R : Reading) (reads : Reads text R) where
  pub bad_label : accepted R.answer ≡ false → Outputs table_output text out out 0
  unfolding table_output
  bad_label h = record { reading = R; reads = reads; fills = rw h (fills_nothing out) }

  module _ (good : accepted R.answer ≡ true) where
    pub other_m : (R.recipe.m ≡ 10 → ⊥) → Outputs table_output text out out 0
    unfolding table_output
    other_m h = record { reading = R; reads = reads; fills = rw (good, ne_eqb R.recipe.m 10 h) (fills_nothing out) }

    pub good_label : R.recipe.m ≡ 10 → {l : List ℕ} {end : ℕ} → Fills (four_parts R.recipe) out l end
        → Outputs table_output text out l end
    unfolding table_output
    good_label h f = record { reading = R; reads = reads; fills = rw (good, eq-eqb R.recipe.m 10 h) f }
