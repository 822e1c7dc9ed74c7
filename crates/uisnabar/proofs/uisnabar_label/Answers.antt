-- ANSWER for either buffer; else what the reader read.
use lib.Dec.{eqb}
use lib.ListN.{length}
use mathlib.Core.Path.{refl, ◌∙◌}
use Rattle.reply.specs.Reply.{answer_bytes}
use Rattle.answer.specs.Answers.{Buffer}
use Rattle.answer.proofs.Named.{refusal_not_accepted}
use Rattle.label.proofs.Label.{reading_some}
use Rattle.reply.proofs.Unfit.{buffer_told, unchanged}
use Rattle.uisnabar.proofs.Buffers.{unfit_left, unfit_right, unfit, fit}
use Rattle.uisnabar.proofs.uisnabar_label.Goals as goal

pub returns-then-answer-ne24 : goal.returns-then-answer-ne24
returns-then-answer-ne24 c =
    let s = c.args in
    let answer = s.answer.now in
    let told = c.reply.ensures in
    let other = c.if-answer-ne24.true in
    let read = reading_some s.text.now in
    unfit s.text.now answer s.recipe.now read.0 read.1 _ _ (unfit_left answer answer_bytes other _)
    (told.0 ∙ buffer_told answer other Buffer) (told.1 ∙ unchanged answer other Buffer)

pub returns-then-recipe-ne20 : goal.returns-then-recipe-ne20
returns-then-recipe-ne20 c =
    let s = c.args in
    let recipe = s.recipe.now in
    let other = c.if-recipe-ne20.true in
    let read = reading_some s.text.now in
    unfit s.text.now s.answer.now recipe read.0 read.1 _ _ (unfit_right recipe 20 other (eqb (length s.answer.now) answer_bytes))
    (rw c.misfit.ensures) refl

pub returns-in-Ok : goal.returns-in-Ok
returns-in-Ok c =
    let s = c.args in
    let told = c.reply-in-Ok.ensures in
    fit s.text.now s.answer.now s.recipe.now _ c.in-Ok.ensures _ _ _
    c.if-answer-ne24.false c.if-recipe-ne20.false told.0 told.1 c.recipe_bytes.ensures

pub returns-in-Err : goal.returns-in-Err
returns-in-Err c =
    let s = c.args in
    let told = c.reply-in-Err.ensures in
    let kept = refusal_not_accepted c.in-Err.refusal in
    fit s.text.now s.answer.now s.recipe.now _ c.in-Err.ensures _ _ _
    c.if-answer-ne24.false c.if-recipe-ne20.false told.0 told.1 (rw kept)
