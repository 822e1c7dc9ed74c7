-- `uisnabar_listing::list_call` meets its contract: ANSWER, or what is told.
use mathlib.Core.Path.{refl, sym, ◌∙◌}
use borrow.Author.Rules.{rules}
use borrow.Author.Tests.{not-true, not-false}
use Rattle.std.proofs.Common.{ap, ◌≡◌}
use Rattle.answer.specs.Answers.{Answer, answer_of, number_of}
use Rattle.listing_spec.specs.Writing.{Transcribed, transcribed_by, listed, listed_in}
use Rattle.reply.proofs.Telling.{untold, kept, wholes, told, left}
use Rattle.uisnabar_listing.proofs.CallEnds.{lists_by}
use Rattle.uisnabar_listing.proofs.list_call.Goals as goal

pub returns-then-not-told_fits : goal.returns-then-not-told_fits
returns-then-not-told_fits c =
    let s = c.args in
    let e = sym c.told_fits.ensures ∙ c.if-not-told_fits.true in
    let did = listed s.program.now s.text.now in
    let ends =
    lists_by s.program.now s.text.now s.written.now s.answer.now _ _ refl refl
    (kept s.written.now s.answer.now (listed_in s.program.now s.text.now) s.text.now e)
    (untold s.written.now s.answer.now did.answer did.written _ e c.misfit.ensures) in record {
      value = ends.0;
      text_after = ends.1.0;
      written_after = ends.1.1.0;
      answer_after = ends.1.1.1;
    }

pub tell_number-requires : goal.tell_number-requires
tell_number-requires c =
    let s = c.args in
    wholes s.written.now s.answer.now (sym c.told_fits.ensures ∙ c.if-not-told_fits.false)

pub returns : goal.returns
returns c =
    let s = c.args in
    let e = sym c.told_fits.ensures ∙ c.if-not-told_fits.false in
    let did = c.list-listed in
    let is : transcribed_by did.result ≡ listed s.program.now s.text.now = λ i. record { answer = did.ensures.value i; written = did.ensures.written i } in
    let ends =
    lists_by s.program.now s.text.now s.written.now s.answer.now (transcribed_by did.result) did.new.text is did.ensures.text_after
    (left s.written.now s.answer.now e did.new.text s.text.now)
    (told s.written.now s.answer.now e (answer_of did.result) (number_of did.result) _ _ _ c.tell_number.ensures) in record {
      value = ends.0;
      text_after = ends.1.0;
      written_after = ends.1.1.0;
      answer_after = ends.1.1.1;
    }
