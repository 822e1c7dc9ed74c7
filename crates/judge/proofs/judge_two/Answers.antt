-- The lowest part of bad length is named; lengths that fit are short, and the answer is that of the stages after.
use mathlib.Core.Path.{◌≡◌, sym, ◌∙◌}
use mathlib.Core.List.{◌++◌}
use lib.ListN.{length, length-append}
use Rattle.rules.specs.Sizes.{program_fits, memory_fits, exec_fits, ext_fits}
use Rattle.judge_spec.specs.Judged.{judge_of}
use Rattle.inputs.specs.Parts.{bad_part}
use Rattle.inputs.proofs.Fits.{Fit, bad_named, all_fit, fitting}
use Rattle.judge.proofs.judge_two.Goals as goal

pub returns-then-part-ne0 : goal.returns-then-part-ne0
unfolding judge_of
returns-then-part-ne0 c =
    let named : (let s = c.args in
    c.bad_part-part.result ≡ bad_part (length s.program.now) (length (s.public.now ++ s.rest.now)) (length s.exec.now) (length s.ext.now)) = (let s = c.args in
    rw (length-append s.public.now s.rest.now) c.bad_part-part.ensures) in
    let s = c.args in
    rw (named)
    (bad_named
    (program_fits (length s.program.now))
    (memory_fits (length (s.public.now ++ s.rest.now)))
    (exec_fits (length s.exec.now))
    (ext_fits (length s.ext.now))
    _
    (λ e. c.if-part-ne0.true (named ∙ e)))

pub invariant_of-parts-2 : goal.invariant_of-parts-2
invariant_of-parts-2 c =
    let named : (let s = c.args in
    c.bad_part-part.result ≡ bad_part (length s.program.now) (length (s.public.now ++ s.rest.now)) (length s.exec.now) (length s.ext.now)) = (let s = c.args in
    rw (length-append s.public.now s.rest.now) c.bad_part-part.ensures) in
    let fit : (let s = c.args in
    Fit (program_fits (length s.program.now)) (memory_fits (length (s.public.now ++ s.rest.now))) (exec_fits (length s.exec.now)) (ext_fits (length s.ext.now))) = all_fit _ _ _ _ (sym (named) ∙ c.if-part-ne0.false) in record { fitting = fitting _ _ _ _ (fit).first (fit).second (fit).third (fit).fourth }

pub returns : goal.returns
unfolding judge_of
returns c =
    let named : (let s = c.args in
    c.bad_part-part.result ≡ bad_part (length s.program.now) (length (s.public.now ++ s.rest.now)) (length s.exec.now) (length s.ext.now)) = (let s = c.args in
    rw (length-append s.public.now s.rest.now) c.bad_part-part.ensures) in
    let fit : (let s = c.args in
    Fit (program_fits (length s.program.now)) (memory_fits (length (s.public.now ++ s.rest.now))) (exec_fits (length s.exec.now)) (ext_fits (length s.ext.now))) = all_fit _ _ _ _ (sym (named) ∙ c.if-part-ne0.false) in
    let f = fit in
    rw (f.first, f.second, f.third, f.fourth) c.words_answer.ensures
