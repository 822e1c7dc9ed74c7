-- `uisnabar_forms::report_call` meets its contract: ANSWER, or what the report gives.
use borrow.Author.Rules.{rules}
use borrow.Author.Tests.{not-true, not-false}
use mathlib.Core.Path.{sym, ◌∙◌}
use Rattle.answer.specs.Answers.{answer_of, number_of}
use Rattle.uisnabar_forms.proofs.ReportEnds.{unfit_call, grid_whole, told_wholes, told_call}
use Rattle.uisnabar_forms.proofs.report_call.Goals as goal

pub returns-then-not-report_fits : goal.returns-then-not-report_fits
returns-then-not-report_fits c =
    let s = c.args in
    let ends = unfit_call s.grid.now s.text.now s.written.now s.answer.now (sym c.report_fits.ensures ∙ c.if-not-report_fits.true) _ c.misfit.ensures in record {
      value = ends.0;
      text_after = ends.1.0;
      written_after = ends.1.1.0;
      answer_after = ends.1.1.1;
    }

pub read_grid-requires : goal.read_grid-requires
read_grid-requires c =
    let s = c.args in
    grid_whole s.grid.now s.text.now s.written.now s.answer.now (sym c.report_fits.ensures ∙ c.if-not-report_fits.false)

pub tell_number-requires : goal.tell_number-requires
tell_number-requires c =
    let s = c.args in
    told_wholes s.grid.now s.text.now s.written.now s.answer.now (sym c.report_fits.ensures ∙ c.if-not-report_fits.false)

pub returns : goal.returns
returns c =
    let s = c.args in
    let did = c.report-reported in
    let read = c.read_grid.ensures in
    let ends =
    told_call s.grid.now s.text.now s.written.now s.answer.now (sym c.report_fits.ensures ∙ c.if-not-report_fits.false) (answer_of did.result) (number_of did.result) _ _ _ _
    (rw read at did.ensures.value) (rw read at did.ensures.written) (rw read at did.ensures.text_after) c.tell_number.ensures in record {
      value = ends.0;
      text_after = ends.1.0;
      written_after = ends.1.1.0;
      answer_after = ends.1.1.1;
    }
