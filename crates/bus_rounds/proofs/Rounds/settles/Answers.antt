-- Every pull of the class is put, every push takes one, and none is left.
use mathlib.Core.Bool.{true≢false}
use mathlib.Core.Path.{sym, ◌∙◌}
use Rattle.bus_rounds.proofs.Held.{none_put, none_taken, all_taken}
use Rattle.bus_rounds.proofs.Rounds.settles.Goals as goal
use Rattle.bus_rounds.proofs.Rounds.settles.Goals.{then-put_rows, else-put_rows}

pub returns-then-take_rows : goal.returns-then-take_rows
returns-then-take_rows c =
    let self = c.args.self.now in
    let empty = none_put self.ext.now self.span self.count c.args.class c.new-slots.result c.new-slots.ensures in
    elim c.if-put_rows.branch [
      | then-put_rows w ↦
          let put = c.put_rows.ensures w.if-put_rows.true empty in
          let taken = w.take_rows.ensures (sym w.value-is ∙ c.if-take_rows.true) (none_taken self.rows.program.now self.rows.exec.now put) in
          λ e. all_taken (rw (← w.slots-is) at taken) (c.none_waits.ensures e)
      | else-put_rows w ↦ absurd (true≢false (sym c.if-take_rows.true ∙ w.value-is ∙ w.if-put_rows.false))
    ]
