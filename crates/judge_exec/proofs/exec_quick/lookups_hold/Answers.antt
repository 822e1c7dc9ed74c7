-- Each lookup is passed.
use mathlib.Core.Path.{refl, sym, ◌∙◌}
use Rattle.judge_lookups.proofs.Quick.{pass, never}
use Rattle.judge_exec.proofs.exec_quick.lookups_hold.Goals as goal

pub returns : goal.returns
returns c e after =
    let else2 = c in
    let else1 = else2 in
    pass 2 (sym else1.looks_up.ensures ∙ else1.if-not-looks_up.false)
    (pass 3 (sym else2.looks_up-2.ensures ∙ else2.if-not-looks_up-2.false)
    (pass 4 (sym c.looks_up-3.ensures ∙ e) refl))

pub returns-then-not-looks_up : goal.returns-then-not-looks_up
returns-then-not-looks_up c = never

pub returns-then-not-looks_up-2 : goal.returns-then-not-looks_up-2
returns-then-not-looks_up-2 c = never
