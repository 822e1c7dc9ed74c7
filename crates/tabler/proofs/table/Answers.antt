-- The lowest part of bad length is named; lengths that fit are in range, and the answer is that of the tests after.
use mathlib.Core.Path.{refl, sym, ◌∙◌}
use lib.ListN.{length}
use Rattle.rules.specs.Sizes.{program_fits, memory_fits, exec_fits, ext_fits}
use Rattle.tabler_spec.specs.Tabled.{table_of}
use Rattle.tabler.proofs.Ending.{unchanged, three}
use Rattle.inputs.proofs.Fits.{bad_named, Fit, all_fit, fitting}
use Rattle.tabler.proofs.table.Goals as goal

pub returns-then-part-ne0 : goal.returns-then-part-ne0
unfolding table_of
returns-then-part-ne0 c =
    let s = c.args in
    let b = c.bad_part-part in
    three s.program.now s.memory.now s.pc s.fp s.exec.now s.ext.now
    (unchanged _ _ _ _ _ _ (λ old written. refl)
    (rw b.ensures
    (sym
    (bad_named (program_fits (length s.program.now)) (memory_fits (length s.memory.now)) (exec_fits (length s.exec.now)) (ext_fits (length s.ext.now)) _
    (λ e. c.if-part-ne0.true (b.ensures ∙ e))))))

pub table_words-requires : goal.table_words-requires
table_words-requires c =
    let all_fitting : let s = c.args in
    Fit (program_fits (length s.program.now)) (memory_fits (length s.memory.now)) (exec_fits (length s.exec.now)) (ext_fits (length s.ext.now)) = (let s = c.args in
    all_fit (program_fits (length s.program.now)) (memory_fits (length s.memory.now)) (exec_fits (length s.exec.now)) (ext_fits (length s.ext.now))
    (sym c.bad_part-part.ensures ∙ c.if-part-ne0.false)) in
    let fit = all_fitting in
    let s = c.args in
    fitting (length s.program.now) (length s.memory.now) (length s.exec.now) (length s.ext.now) fit.first fit.second fit.third fit.fourth

pub returns : goal.returns
unfolding table_of
returns c =
    let all_fitting : let s = c.args in
    Fit (program_fits (length s.program.now)) (memory_fits (length s.memory.now)) (exec_fits (length s.exec.now)) (ext_fits (length s.ext.now)) = (let s = c.args in
    all_fit (program_fits (length s.program.now)) (memory_fits (length s.memory.now)) (exec_fits (length s.exec.now)) (ext_fits (length s.ext.now))
    (sym c.bad_part-part.ensures ∙ c.if-part-ne0.false)) in
    let t = c in
    let fit = all_fitting in
    let s = t.args in
    three s.program.now s.memory.now s.pc s.fp s.exec.now s.ext.now
    (rw (fit.first, fit.second, fit.third, fit.fourth) t.table_words.ensures)
