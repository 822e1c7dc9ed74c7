-- Each answer is the case of the tests that led to it; lengths that fit have their seam between cells.
use borrow.Author.Rules.{rules}
use borrow.Author.Tests.{not-true, not-false}
use mathlib.Core.Path.{sym, ◌∙◌}
use native.Mathlib.Omega.{arith}
use lib.ListN.{length, length-append}
use Rattle.split_spec.specs.Split.{judge_split_of}
use Rattle.split.proofs.Lengths.{both_fit_lem}
use Rattle.split.proofs.judge_split.Goals as goal

pub returns-then-not-program_fits : goal.returns-then-not-program_fits
unfolding judge_split_of
returns-then-not-program_fits c = rw (sym c.program_fits.ensures ∙ c.if-not-program_fits.true)

pub returns-then-not-split_fits : goal.returns-then-not-split_fits
unfolding judge_split_of
returns-then-not-split_fits c = rw (sym c.program_fits.ensures ∙ c.if-not-program_fits.false, sym c.split_fits.ensures ∙ c.if-not-split_fits.true)

pub judge_two-requires : goal.judge_two-requires
judge_two-requires c =
    let s = c.args in
    let fit = both_fit_lem (length s.public.now) (length s.rest.now) (sym c.split_fits.ensures ∙ c.if-not-split_fits.false) in record {
      seam_between = fit.0;
      rest_len_bound = omega (arith, length-append s.public.now s.rest.now, fit.1);
    }

pub returns : goal.returns
unfolding judge_split_of
returns c =
    let two = c in
    rw (sym two.program_fits.ensures ∙ two.if-not-program_fits.false, sym two.split_fits.ensures ∙ two.if-not-split_fits.false)
    c.judge_two.ensures
