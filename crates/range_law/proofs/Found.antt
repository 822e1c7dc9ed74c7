-- In an accepted table the finder's tests find the range checks, each with its bound, and nothing else.
-- Assumes nothing.
use mathlib.Core.Path.{◌≡◌, ap, ◌∙◌}
use mathlib.Core.Bool.{true}
use mathlib.Core.List.{[], ◌∷◌}
use Prim.Native.Nat.{ℕ, ◌+◌, ◌-◌, ◌<◌}
use native.Mathlib.Omega.{arith}
use Rattle.word.proofs.Tests.{each}
use Rattle.form.specs.declared.Instruction.{Instruction}
use Rattle.std.specs.Prelude.{Some}
use Rattle.answer.specs.Answers.{Accepted}
use Rattle.rules.specs.Bus.{instruction_of}
use Rattle.rules.specs.Sizes.{Parts, given_of, tables_of}
use Rattle.judge_spec.specs.Judged.{judge_of}
use Rattle.judge_spec.proofs.AcceptedRows.{row_formed}
use Rattle.range_spec.specs.RangeCheck.{add_of}
use Rattle.range_spec.specs.Finds.{derefs, adds, found_at, bound_at}
use Rattle.range_law.specs.Ranges.{IsRangeCheck}
use Rattle.range_law.proofs.Exact.{derefs_form, form_derefs, adds_form, form_adds}

module _ (q : Parts) (e : judge_of q ≡ Accepted) where
  abbrev row : ℕ → Instruction
  row r = instruction_of (given_of q) (tables_of q) r

  pub found_check : (r : ℕ) → r + 2 < (tables_of q).height → found_at (given_of q) (tables_of q) r ≡ true
      → IsRangeCheck q r (bound_at (given_of q) (tables_of q) r)
  unfolding found_at bound_at
  found_check r h t =
      let (first, (second, last)) = each (derefs (row (r + 1)).a (row r)) (adds (row (r + 1)) ∷ derefs (row (r + 1)).c (row (r + 2)) ∷ []) t in
      let (first_c, is_first) = derefs_form (row r) (row (r + 1)).a (row_formed q e r (omega arith)) first in
      let (last_c, is_last) = derefs_form (row (r + 2)) (row (r + 1)).c (row_formed q e (r + 2) h) last in
      let sum : (row (r + 1)).b ≡ (row (r + 1)).b + 1 - 1 = omega arith in
      let is-second = adds_form (row (r + 1)) (row_formed q e (r + 1) (omega arith)) second in (
        (row (r + 1)).a,
        (row (r + 1)).c,
        record {
          inside = h;
          first_c = first_c;
          first = is_first;
          second = is-second ∙ ap (λ (b : ℕ). Some (add_of (row (r + 1)).a (row (r + 1)).c b)) sum;
          last_c = last_c;
          last = is_last;
          some = omega arith;
        },
      )

  pub check_found : (r bound : ℕ) → IsRangeCheck q r bound
      → (found_at (given_of q) (tables_of q) r ≡ true) × (bound_at (given_of q) (tables_of q) r ≡ bound)
  unfolding found_at bound_at
  check_found r bound (x, j, c) =
      let (second, a, third, b) = form_adds (row (r + 1)) x j (bound - 1) c.second in
      let first = form_derefs (row r) x c.first_c c.first in
      let last = form_derefs (row (r + 2)) j c.last_c c.last in
      let some = c.some in
      (rw (a, third, first, second, last), omega (arith, b))
