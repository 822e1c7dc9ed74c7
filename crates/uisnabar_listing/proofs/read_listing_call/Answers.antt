-- `uisnabar_listing::read_listing_call` meets its contract: ANSWER, or what is told.
use mathlib.Core.Path.{sym, ◌∙◌}
use borrow.Author.Rules.{rules}
use borrow.Author.Tests.{not-true, not-false}
use Rattle.answer.specs.Answers.{answer_of, number_of}
use Rattle.listing_spec.specs.Writing.{transcribed_by}
use Rattle.reply.proofs.Telling.{wholes, told, left}
use Rattle.uisnabar_listing.proofs.CallEnds.{reads_by, unread}
use Rattle.uisnabar_listing.proofs.read_listing_call.Goals as goal

pub returns-then-not-told_fits : goal.returns-then-not-told_fits
returns-then-not-told_fits c =
    let s = c in
    unread s.args.text.now s.args.program.now s.args.written.now s.args.answer.now
    (sym c.told_fits.ensures ∙ c.if-not-told_fits.true) c.misfit.ensures

pub tell_number-requires : goal.tell_number-requires
tell_number-requires c =
    let s = c.args in
    wholes s.written.now s.answer.now (sym c.told_fits.ensures ∙ c.if-not-told_fits.false)

pub returns : goal.returns
returns c =
    let s = c.args in
    let e = sym c.told_fits.ensures ∙ c.if-not-told_fits.false in
    let did = c.read_listing-done in
    reads_by s.text.now s.program.now s.written.now s.answer.now (transcribed_by did.result) did.new.program did.ensures
    (left s.written.now s.answer.now e did.new.program s.program.now)
    (told s.written.now s.answer.now e (answer_of did.result) (number_of did.result) _ _ _ c.tell_number.ensures)
