-- `uisnabar_range::ranges_call` meets its contract: ANSWER, or what is told.
use mathlib.Core.Path.{refl, sym, ◌∙◌}
use borrow.Author.Rules.{rules}
use borrow.Author.Tests.{not-true, not-false}
use lib.ListN.{length}
use Rattle.rules.specs.Sizes.{Parts, parts_of}
use Rattle.range_spec.specs.Finder.{ranges_answer, ranges_found, finds_left}
use Rattle.answer.specs.Answers.{answer_of, number_of}
use Rattle.reply.proofs.Telling.{untold, kept, wholes, told, left}
use Rattle.uisnabar_range.proofs.CallEnds.{finds_by}
use Rattle.uisnabar_range.proofs.ranges_call.Goals as goal

pub returns-then-not-told_fits : goal.returns-then-not-told_fits
returns-then-not-told_fits c =
    let s = c.args in
    let q : Parts = parts_of s.program.now s.memory.now s.pc s.fp s.exec.now s.ext.now in
    let e = sym c.told_fits.ensures ∙ c.if-not-told_fits.true in
    let room = length s.finds.now in
    let ends =
    finds_by q s.finds.now s.found.now s.answer.now _ _ _ refl refl refl
    (kept s.found.now s.answer.now (finds_left q s.finds.now) s.finds.now e)
    (untold s.found.now s.answer.now (ranges_answer q room) (ranges_found q room) _ e c.misfit.ensures) in record {
      value = ends.0;
      finds_after = ends.1.0;
      found_after = ends.1.1.0;
      answer_after = ends.1.1.1;
    }

pub tell_number-requires : goal.tell_number-requires
tell_number-requires c =
    let s = c.args in
    wholes s.found.now s.answer.now (sym c.told_fits.ensures ∙ c.if-not-told_fits.false)

pub returns : goal.returns
returns c =
    let s = c.args in
    let q : Parts = parts_of s.program.now s.memory.now s.pc s.fp s.exec.now s.ext.now in
    let e = sym c.told_fits.ensures ∙ c.if-not-told_fits.false in
    let did = c.find_ranges-ranged in
    let ends =
    finds_by q s.finds.now s.found.now s.answer.now (answer_of did.result) (number_of did.result) did.new.finds did.ensures.value did.ensures.found did.ensures.finds_after
    (left s.found.now s.answer.now e did.new.finds s.finds.now)
    (told s.found.now s.answer.now e (answer_of did.result) (number_of did.result) _ _ _ c.tell_number.ensures) in record {
      value = ends.0;
      finds_after = ends.1.0;
      found_after = ends.1.1.0;
      answer_after = ends.1.1.1;
    }
