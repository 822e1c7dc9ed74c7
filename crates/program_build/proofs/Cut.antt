-- The programs read a byte more than the longest label and no further: no later byte changes the reading.
-- Assumes nothing.
use Prim.Native.Nat.{ℕ, ◌≤◌}
use mathlib.Core.List.{List}
use mathlib.Core.Logic.{inl, inr}
use mathlib.Core.Path.{sym, ap, subst, ◌∙◌}
use native.Mathlib.Omega.{arith}
use lib.ListN.{length, take, length-take}
use lib.Seq.{take_all}
use Rattle.text_patterns.proofs.Law.{shared_cut}
use Rattle.label.specs.Reading.{Reading, Reads}
use Rattle.label.proofs.Length.{label_most, valid_most}

module _ (text : List ℕ) where
  pub later_bytes : (R : Reading) → Reads (take 38 text) R → Reads text R
  later_bytes R (inl a) =
      let e = take_all 38 text (omega (arith, length-take 38 text, ap length a.label, label_most R.recipe a.range.ranges)) in
      inl (record { answer = a.answer; range = a.range; label = a.label ∙ e })
  later_bytes R (inr n) =
      inr (record {
        place = n.place;
        answer = n.answer;
        invalid = λ v. n.invalid (v.0, v.1, v.2 ∙ sym (take_all 38 text (omega (arith, valid_most v))));
        nearest =
            record {
              attained =
                  let a = n.nearest.attained in
                  (a.0, a.1, sym (shared_cut a.0 text 38 (omega (arith, valid_most a.1))) ∙ a.2);
              most = λ w h. subst (λ (k : ℕ). k ≤ n.place) (shared_cut w text 38 (omega (arith, valid_most h))) (n.nearest.most w h);
            };
        recipe = n.recipe;
      })
