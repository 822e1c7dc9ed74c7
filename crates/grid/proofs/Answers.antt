-- The three ends of a count: refused by the judge, without room, and counted.
-- Assumes nothing.
use mathlib.Core.Path.{◌≡◌, refl, sym, ap, ◌∙◌}
use mathlib.Core.Bool.{true, false}
use mathlib.Core.List.{List, []}
use Prim.Native.Nat.{ℕ, ◌+◌, ◌≤◌}
use lib.Dec.{leb}
use borrow.Author.Tests.{leb-true, leb-false}
use Rattle.answer.specs.Verdicts.{accepted}
use Rattle.answer.specs.Answers.{Answer, Accepted, Grid}
use Rattle.answer.proofs.Named.{accepted_is}
use Rattle.rules.specs.Sizes.{Parts, given_of, tables_of, given, tables}
use Rattle.judge_spec.specs.Judged.{judge_of}
use Rattle.bus_tuples.specs.Ready.{Listed}
use Rattle.bus_tuples.proofs.AcceptedRows.{accepted_listed}
use Rattle.grid_spec.specs.Forms.{counter_at}
use Rattle.grid_spec.specs.Grid.{sum_of, limit, with_rows, count_answer, count_grid}
use Rattle.grid_spec.proofs.Tables.{refusal_keeps, counts_rows, judge_refuses, within, beyond}

-- forms are read from the program and the execution table alone
rows_alone : (grid : List ℕ) (q : Parts) → with_rows grid (given q.program []) (tables q.exec []) ≡ with_rows grid (given_of q) (tables_of q)
unfolding with_rows counter_at
rows_alone grid q = refl

module _ (grid : List ℕ) (q : Parts) (a : Answer) (told : a ≡ judge_of q) where
  pub refused : accepted a ≡ false → (a ≡ count_answer grid q) × (grid ≡ count_grid grid q)
  refused not =
      let e = judge_refuses grid q (ap accepted (sym told) ∙ not) in
      (told ∙ sym e, sym (refusal_keeps grid q (ap accepted (e ∙ sym told) ∙ not)))

  module _ (yes : accepted a ≡ true) where
    judged : accepted (judge_of q) ≡ true
    judged = ap accepted (sym told) ∙ yes

    pub full : leb (sum_of grid + (tables_of q).height) limit ≡ false → (Grid ≡ count_answer grid q) × (grid ≡ count_grid grid q)
    full over =
        let e = beyond grid q judged (leb-false (sum_of grid + (tables_of q).height) limit over) in
        (sym e, sym (refusal_keeps grid q (ap accepted e)))

    -- what counting the rows asks for, and what it gives
    pub listed : Listed q.program q.exec
    listed = accepted_listed q (accepted_is (judge_of q) judged)

    pub room : leb (sum_of grid + (tables_of q).height) limit ≡ true → sum_of grid + (tables_of q).height ≤ limit
    room under = leb-true (sum_of grid + (tables_of q).height) limit under

    pub counted : leb (sum_of grid + (tables_of q).height) limit ≡ true → (after : List ℕ)
        → after ≡ with_rows grid (given q.program []) (tables q.exec [])
        → (Accepted ≡ count_answer grid q) × (after ≡ count_grid grid q)
    counted under after rows =
        let e = within grid q judged (room under) in
        (sym e, rows ∙ rows_alone grid q ∙ sym (counts_rows grid q (ap accepted e)))
