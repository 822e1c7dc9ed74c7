-- A flag of 0 and equal elements leave 0; else coordinate by coordinate.
use mathlib.Core.Path.{sym, ◌∙◌}
use Rattle.std.specs.Cmp.Lexicographic.{same_text}
use Rattle.word.proofs.ElementLaws.{scale_zero}
use Rattle.judge_ext.proofs.QuickExt.{same_elements, each_gated}
use Rattle.judge_ext.proofs.accumulation.gated_elements.Goals as goal

pub returns-then-flag-eq0 : goal.returns-then-flag-eq0
returns-then-flag-eq0 c = rw (c.if-flag-eq0.true, scale_zero)

pub returns-then-eq : goal.returns-then-eq
returns-then-eq c =
    let s = c.args in
    sym (same_elements s.flag s.a s.b (same_text s.a s.b (sym c.if-eq.true ∙ c.eq.ensures)))

pub returns : goal.returns
returns c =
    let third = c in
    let first = third in
    let args = first.args in
    each_gated args.flag args.a args.b
    first.gated.ensures
    third.gated-2.ensures
    third.gated-3.ensures
    c.gated-4.ensures
    c.gated-5.ensures
