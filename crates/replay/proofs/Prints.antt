-- What the program prints for a valid label, with m 10 or another, and for any other text.
-- Assumes nothing.
use mathlib.Core.Path.{◌≡◌, refl, ap, subst, ◌∙◌}
use mathlib.Core.List.{List, ◌++◌}
use mathlib.Core.Logic.{inl, inr}
use Prim.Native.Nat.{ℕ}
use borrow.Author.Tests.{eq-eqb, ne_eqb}
use Rattle.answer.specs.Answers.{Answer, Accepted, Size, Label}
use Rattle.text_patterns.specs.Place.{Place}
use Rattle.lines.specs.Line.{decimal_in}
use Rattle.label.specs.Label.{InRange, label_of}
use Rattle.label.specs.Reading.{Reading, Valid, Reads}
use Rattle.label.specs.declared.Recipe.{Recipe}
use Rattle.label.proofs.Label.{label_reads}
use Rattle.program_build.specs.Output.{Fills, Outputs}
use Rattle.program_build.proofs.Recipes.{judged_accepted}
use Rattle.replay.specs.Replay.{lines_of, judged_of, replay_of, replay_output}
use Rattle.replay.specs.Prints.{Prints}

module _ (before after : List ℕ) (size : ℕ) where
  -- a valid label and the answer to it
  module _ (r : Recipe) (inside : InRange r) (h : Outputs replay_output (label_of r) before after size) where
    printed : replay_output h.reading ≡ label_of r ++ lines_of (replay_of r)
    unfolding replay_output
    printed =
        let (good, is) = label_reads r inside h.reading h.reads in
        rw (good, is)

    label_and : (a : Answer) → replay_of r ≡ a → Fills (label_of r ++ lines_of a) before after size
    label_and a e =
        subst (λ (bytes : List ℕ). Fills bytes before after size) (printed ∙ ap (λ (x : Answer). label_of r ++ lines_of x) e) h.fills

    accepts : r.m ≡ 10 → Fills (label_of r ++ lines_of Accepted) before after size
    unfolding replay_of judged_of
    accepts ten = label_and Accepted (rw (eq-eqb r.m 10 ten) (judged_accepted r inside.ranges))

    other_m : (r.m ≡ 10 → ⊥) → Fills (label_of r ++ lines_of (Size 2 0)) before after size
    unfolding replay_of
    other_m other = label_and (Size 2 0) (rw (ne_eqb r.m 10 other))

  -- a text that is no label
  module _ (text : List ℕ) (invalid : Valid text → ⊥) where
    refused : (R : Reading) → Reads text R → Fills (replay_output R) before after size
        → (place : ℕ) × Place Valid text place × Fills (lines_of (Label place)) before after size
    unfolding replay_output
    refused R (inl a) f = absurd (invalid (R.recipe, a.range, a.label))
    refused R (inr n) f = (n.place, n.nearest, rw n.answer at f)

    refuses : Outputs replay_output text before after size → (place : ℕ) × Place Valid text place × Fills (lines_of (Label place)) before after size
    refuses h = refused h.reading h.reads h.fills

pub prints : Prints
unfolding lines_of decimal_in
prints =
    record {
      accepts = λ r inside ten before after size h. accepts before after size r inside h ten;
      other_m = λ r inside other before after size h. other_m before after size r inside h other;
      refuses = λ text invalid before after size h. refuses before after size text invalid h;
      six_zeros = refl;
    }
