-- Each answer has its law; the lengths that fit bound each place.
use mathlib.Core.Bool.{true}
use mathlib.Core.Path.{◌≡◌, refl, sym, ◌∙◌}
use Prim.Native.Nat.{◌*◌, ◌^◌, ◌≤◌}
use native.Mathlib.Omega.{arith}
use lib.ListN.{length}
use Rattle.edition_spec.specs.Translated.{lengths_fit}
use Rattle.edition.proofs.Ends.{unfit, old_high, program_length, word_above, untranslatable, all_translated}
use Rattle.edition.proofs.translate.Goals as goal

pub returns-then-not-lengths_fit : goal.returns-then-not-lengths_fit
returns-then-not-lengths_fit c =
    let s = c.args in
    unfit s.old.now s.program.now (sym c.lengths_fit.ensures ∙ c.if-not-lengths_fit.true)

pub overflow_cast-result : goal.overflow_cast-result
overflow_cast-result c =
    let fit : lengths_fit (length c.args.old.now) (length c.args.program.now) ≡ true = sym c.lengths_fit.ensures ∙ c.if-not-lengths_fit.false in
    let high : length c.args.old.now ≤ 56 * 2 ^ 20 = (let s = c.args in old_high s.old.now s.program.now (fit)) in
    record { fits = omega (arith, high) }

pub returns-then-word-old : goal.returns-then-word-old
returns-then-word-old c =
    let fit : lengths_fit (length c.args.old.now) (length c.args.program.now) ≡ true = sym c.lengths_fit.ensures ∙ c.if-not-lengths_fit.false in
    let fits = c in
    let s = fits.args in
    word_above s.old.now s.program.now (fit) _ c.first_word-word.ensures c.if-word-old.true

pub overflow_cast-result-in-Some : goal.overflow_cast-result-in-Some
overflow_cast-result-in-Some c =
    let fit : lengths_fit (length c.args.old.now) (length c.args.program.now) ≡ true = sym c.lengths_fit.ensures ∙ c.if-not-lengths_fit.false in
    let high : length c.args.old.now ≤ 56 * 2 ^ 20 = (let s = c.args in old_high s.old.now s.program.now (fit)) in
    record { fits = omega (arith, high) }

pub returns-in-Some : goal.returns-in-Some
returns-in-Some c =
    let fit : lengths_fit (length c.args.old.now) (length c.args.program.now) ≡ true = sym c.lengths_fit.ensures ∙ c.if-not-lengths_fit.false in
    let fits = c in
    let s = fits.args in
    untranslatable s.old.now s.program.now (fit) _ c.first_word-word.ensures c.if-word-old.false _ c.in-Some.ensures.0 c.in-Some.ensures.1

pub put_all-requires : goal.put_all-requires
put_all-requires c =
    let fit : lengths_fit (length c.args.old.now) (length c.args.program.now) ≡ true = sym c.lengths_fit.ensures ∙ c.if-not-lengths_fit.false in
    let fits = c in
    let s = fits.args in
    program_length s.old.now s.program.now (fit)

pub returns : goal.returns
returns c =
    let fit : lengths_fit (length c.args.old.now) (length c.args.program.now) ≡ true = sym c.lengths_fit.ensures ∙ c.if-not-lengths_fit.false in
    let c3 = c in
    let fits = c3 in
    let s = fits.args in
    all_translated s.old.now s.program.now (fit) _ c3.first_word-word.ensures c3.if-word-old.false _ refl (omega (arith, c.in_default.ensures)) c.put_all.ensures
