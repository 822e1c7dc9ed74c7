-- With no operation rules 6 to 8 say nothing; else each call gives the definition's part.
use borrow.Author.Tests.{eqb-true}
use mathlib.Core.Path.{refl}
use mathlib.Core.List.{[], ◌∷◌}
use lib.Dec.{eqb}
use Rattle.word.proofs.Tests.{each}
use Rattle.judge_ext.proofs.AllRules.{its_pair, unoperated, operated}
use Rattle.judge_ext.proofs.accumulation.accumulates.Goals as goal

pub returns-then-x : goal.returns-then-x
returns-then-x c =
    let x = c.ext_inside-x.result in
    let off = each (eqb x.add 0) (eqb x.mul 0 ∷ eqb x.peq 0 ∷ []) c.if-x.true in
    unoperated c.args.ext.now c.args.r c.args.after
    c.ext_inside-x.ensures
    c.gated_elements.ensures
    c.first_failing-last.ensures
    (eqb-true _ _ off.0)
    (eqb-true _ _ off.1.0)
    (eqb-true _ _ off.1.1)

pub returns : goal.returns
returns c =
    operated c.args.ext.now c.args.r c.args.after
    c.ext_inside-x.ensures
    (its_pair c.args.ext.now c.args.r c.ext_inside-y.ensures c.next_row.ensures.0 refl)
    c.gated_elements.ensures
    c.first_failing-last.ensures
    c.operates.ensures
