-- A flag of 0 or 1 leaves words as they are; else each call gives the definition's part.
use borrow.Author.Rules.{rules}
use borrow.Author.Tests.{eqb-true, ltb-true}
use mathlib.Core.Path.{sym, ◌∙◌}
use mathlib.Core.List.{[], ◌∷◌}
use lib.Dec.{eqb, ltb}
use Rattle.word.specs.Word.{p}
use Rattle.word.proofs.Tests.{each}
use Rattle.judge_ext.proofs.QuickExt.{own_words, base_word}
use Rattle.judge_ext.proofs.accumulation.selected_element.Goals as goal

pub returns-then-x-is_element : goal.returns-then-x-is_element
returns-then-x-is_element c =
    let x = c.args.x in
    let is-element = c.is_element in
    let t = each (eqb x.be 0) (is-element.result ∷ []) c.if-x-is_element.true in
    own_words x (eqb-true x.be 0 t.0) (search rules) (sym is-element.ensures ∙ t.1)

pub returns-then-x : goal.returns-then-x
returns-then-x c =
    let x = c.args.x in
    let t = each (eqb x.be 1) (ltb x.base p ∷ []) c.if-x.true in
    base_word x (eqb-true x.be 1 t.0) (ltb-true x.base p t.1)

pub returns : goal.returns
returns c = rw (c.sum.ensures, c.scale-2.ensures, c.sub.ensures, c.scale.ensures)
