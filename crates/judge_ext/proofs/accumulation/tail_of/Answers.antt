-- A next row inside the group keeps its words; else each call gives the definition's part.
use borrow.Author.Rules.{rules}
use borrow.Author.Tests.{eqb-true}
use mathlib.Core.Path.{sym, ◌∙◌}
use mathlib.Core.List.{[], ◌∷◌}
use lib.Dec.{eqb}
use Rattle.word.proofs.Tests.{each}
use Rattle.judge_ext.proofs.QuickExt.{own_tail}
use Rattle.judge_ext.proofs.accumulation.tail_of.Goals as goal

pub returns-then-y-is_element : goal.returns-then-y-is_element
returns-then-y-is_element c =
    let y = c.args.y in
    let is-element = c.is_element in
    let t = each (eqb y.start 0) (is-element.result ∷ []) c.if-y-is_element.true in
    own_tail y (eqb-true y.start 0 t.0) (search rules) (sym is-element.ensures ∙ t.1)

pub returns : goal.returns
returns c = rw (c.scale.ensures, c.sub.ensures)
