-- By the flags; what is no word shows nothing.
use mathlib.Core.Path.{◌∙◌}
use Rattle.judge_exec.proofs.QuickExec.{cell, at_once, in_frame}
use Rattle.judge_exec.proofs.exec_quick.picked.Goals as goal
use Rattle.judge_exec.proofs.exec_quick.picked.Goals.{in-0-eq0, in-0-eq1, in-1-eq0}

pub returns-then-selected-lt2130706433 : goal.returns-then-selected-lt2130706433
returns-then-selected-lt2130706433 c =
    let s = c.args in
    let below = c.if-selected-lt2130706433.true in
    elim c.match-flag.branch [
      | in-0-eq0 w ↦
          rw (w.selected-is, w.in-0-eq0.is-0, w.in-0-eq0.is-1)
          (cell s.operand s.addr s.value s.fp (rw w.selected-is at below) (w.if-addr-add.true ∙ w.add.ensures))
      | in-0-eq1 w ↦ rw (w.selected-is, w.in-0-eq1.is-0, w.in-0-eq1.is-1, w.add-selected.ensures) (in_frame s.operand s.addr s.value s.fp)
      | in-1-eq0 w ↦ rw (w.selected-is, w.in-1-eq0.is-0, w.in-1-eq0.is-1) (at_once s.operand s.addr s.value s.fp (rw w.selected-is at below))
    ]
