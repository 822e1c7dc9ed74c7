-- Each lookup is passed.
use mathlib.Core.Path.{sym, ◌∙◌}
use Rattle.judge_lookups.proofs.Quick.{never}
use Rattle.judge_ext.proofs.QuickExt.{held_lookups}
use Rattle.judge_ext.proofs.ext_quick.held.Goals as goal
use Rattle.judge_ext.proofs.ext_quick.held.Goals.{then-five_held, else-five_held, then-looks_up, else-looks_up}

pub returns-then-five_held-2 : goal.returns-then-five_held-2
returns-then-five_held-2 c e after =
    let m = c.args.memory in
    elim c.if-looks_up.branch [
      | else-looks_up w ↦ never (sym w.if-looks_up.false ∙ sym w.value-is ∙ c.if-five_held-2.true)
      | then-looks_up w ↦
          elim c.if-five_held.branch [
            | else-five_held v ↦ never (sym v.if-five_held.false ∙ sym v.value-is ∙ w.if-looks_up.true)
            | then-five_held v ↦
                held_lookups m.public.now m.rest.now c.args.x m.seam_between
                (sym v.looks_up.ensures ∙ sym v.value-is ∙ w.if-looks_up.true)
                (sym c.five_held.ensures ∙ v.if-five_held.true)
                (sym w.five_held-then-looks_up.ensures ∙ sym w.value-is ∙ c.if-five_held-2.true)
                (sym c.five_held-then-five_held-2.ensures ∙ e)
                after
          ]
    ]
