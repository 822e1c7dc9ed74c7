-- The three ends of a search: refused by the judge, without room, and written.
-- Assumes nothing.
use mathlib.Core.Path.{◌≡◌, refl, sym, ap, ◌∙◌}
use mathlib.Core.Bool.{true, false}
use mathlib.Core.List.{List, [], ◌++◌}
use Prim.Native.Nat.{ℕ, ◌+◌, ◌*◌, ◌/◌, ◌≤◌, ◌<◌, ◌^◌}
use native.Mathlib.Omega.{arith}
use lib.ListN.{length, drop}
use Rattle.answer.specs.Verdicts.{accepted}
use Rattle.answer.specs.Answers.{Answer, Accepted, ListShort}
use Rattle.answer.proofs.Named.{accepted_is}
use Rattle.rules.specs.Sizes.{Parts, given, tables, given_of, tables_of}
use Rattle.judge_spec.specs.Judged.{judge_of}
use Rattle.judge_spec.proofs.Exactly.{accepted_satisfies}
use Rattle.judge_spec.proofs.Lengths.{whole}
use Rattle.bus_tuples.specs.Ready.{Listed, Short}
use Rattle.bus_tuples.proofs.AcceptedRows.{accepted_listed}
use Rattle.range_spec.specs.Finds.{found_at, bound_at, all_finds, finds_number}
use Rattle.range_spec.specs.Finder.{finds_number_in, ranges_answer, ranges_found, finds_left}
use Rattle.range_finds.proofs.All.{bound_small, finds_length}
use Rattle.range_finds.proofs.Answers.{judge_refuses, fits, too_short, number_given, finds_given, nothing_given}

-- what acceptance leaves of the program and the execution table for the walks over the rows
pub record Walkable (program exec : List ℕ) : Type 0 where
  pub listed : Listed program exec
  pub short : Short exec
  pub rows : 256 ≤ length exec / 32
  pub bounds : (r : ℕ) → r + 2 < length exec / 32 → bound_at (given program []) (tables exec []) r < 2 ^ 32

module _ (q : Parts) where
  -- finds are read from the program and the execution table alone
  rows_alone : (finds_number (given q.program []) (tables q.exec []) ≡ finds_number_in q)
      × (all_finds (given q.program []) (tables q.exec []) ≡ all_finds (given_of q) (tables_of q))
  unfolding finds_number all_finds found_at bound_at
  rows_alone = (refl, refl)

  bounds_alone : (r : ℕ) → bound_at (given_of q) (tables_of q) r ≡ bound_at (given q.program []) (tables q.exec []) r
  unfolding bound_at
  bounds_alone r = refl

  -- what is left of an accepted table for the walks
  accepted_walkable : judge_of q ≡ Accepted → Walkable q.program q.exec
  accepted_walkable e =
      let number = whole (length q.exec) 32 25 (accepted_satisfies q e).exec_size in
      let exact = number.whole in
      let most = number.number.most in
      let least = number.number.least in
      record {
        listed = accepted_listed q e;
        short = omega arith;
        rows = omega arith;
        bounds = λ r h. rw (← bounds_alone r) (bound_small q e r h);
      }

  module _ (finds : List ℕ) where
    -- the answer, the number and the buffer are what the promise says
    abbrev Ended : Answer → ℕ → List ℕ → Type 0
    Ended a n after = (a ≡ ranges_answer q (length finds)) × (n ≡ ranges_found q (length finds)) × (after ≡ finds_left q finds)

    refusal : (a : Answer) → a ≡ ranges_answer q (length finds) → accepted a ≡ false → Ended a 0 finds
    refusal a is not =
        let (none, same) = nothing_given q finds (ap accepted (sym is) ∙ not) in
        (is, sym none, sym same)

    module _ (a : Answer) (told : a ≡ judge_of q) where
      pub refused : accepted a ≡ false → Ended a 0 finds
      refused not = refusal a (told ∙ sym (judge_refuses q (length finds) (ap accepted (sym told) ∙ not))) not

      module _ (yes : accepted a ≡ true) where
        judged : accepted (judge_of q) ≡ true
        judged = ap accepted (sym told) ∙ yes

        pub ready : Walkable q.program q.exec
        ready = accepted_walkable (accepted_is (judge_of q) judged)

        module _ (n : ℕ) (counted : n ≡ finds_number (given q.program []) (tables q.exec [])) where
          same : n ≡ finds_number_in q
          same = counted ∙ rows_alone.0

          pub short : length finds / 8 < n → Ended (ListShort n) 0 finds
          short h =
              refusal (ListShort n) (ap ListShort same ∙ sym (too_short q judged (length finds) (omega (arith, same)))) refl

          module _ (enough : n ≤ length finds / 8) where
            pub room : 8 * n ≤ length finds
            room = omega arith

            pub written : (after : List ℕ)
                → after ≡ all_finds (given q.program []) (tables q.exec []) ++ drop (length (all_finds (given q.program []) (tables q.exec []))) finds
                → Ended Accepted n after
            written after left =
                let is = fits q judged (length finds) (omega (arith, same)) in
                let long : length (all_finds (given q.program []) (tables q.exec [])) ≡ 8 * n =
                omega (arith, counted, finds_length (given q.program []) (tables q.exec [])) in (
                  sym is,
                  same ∙ sym (number_given q (length finds) is),
                  left ∙ rw (long, same, rows_alone.1) (sym (finds_given q finds is)),
                )
