-- `uisnabar_forms::count_call` meets its contract: ANSWER, or what counting gives.
use borrow.Author.Rules.{rules}
use borrow.Author.Tests.{not-true, not-false}
use mathlib.Core.Path.{sym, ap, ◌∙◌}
use Rattle.rules.specs.Sizes.{parts_of}
use Rattle.uisnabar_forms.proofs.CountEnds.{unfit_call, grid_whole, told_call}
use Rattle.uisnabar_forms.proofs.count_call.Goals as goal

pub returns-then-not-count_fits : goal.returns-then-not-count_fits
returns-then-not-count_fits c =
    let s = c.args in
    let q = parts_of s.program.now s.memory.now s.pc s.fp s.exec.now s.ext.now in
    let ends = unfit_call q s.grid.now s.answer.now (sym c.count_fits.ensures ∙ c.if-not-count_fits.true) _ c.misfit.ensures in record {
      value = ends.0;
      grid_after = ends.1.0;
      answer_after = ends.1.1;
    }

pub read_grid-counts-requires : goal.read_grid-counts-requires
read_grid-counts-requires c =
    let s = c.args in
    let q = parts_of s.program.now s.memory.now s.pc s.fp s.exec.now s.ext.now in
    grid_whole q s.grid.now s.answer.now (sym c.count_fits.ensures ∙ c.if-not-count_fits.false)

pub put_counted-requires : goal.put_counted-requires
put_counted-requires c =
    let s = c.args in
    let q = parts_of s.program.now s.memory.now s.pc s.fp s.exec.now s.ext.now in
    grid_whole q s.grid.now s.answer.now (sym c.count_fits.ensures ∙ c.if-not-count_fits.false)

pub returns : goal.returns
returns c =
    let s = c.args in
    let q = parts_of s.program.now s.memory.now s.pc s.fp s.exec.now s.ext.now in
    let read = c.read_grid-counts.ensures in
    let told = c.reply.ensures in
    let ends =
    told_call q s.grid.now s.answer.now (sym c.count_fits.ensures ∙ c.if-not-count_fits.false) _ _ _ _ _
    (rw read at c.count-a.ensures.value) (rw read at c.count-a.ensures.grid_after) c.put_counted.ensures told.0 told.1 in record {
      value = ends.0;
      grid_after = ends.1.0;
      answer_after = ends.1.1;
    }
