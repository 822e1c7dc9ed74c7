-- Flags that say which value it is leave that value; else it is the polynomial's.
use mathlib.Core.Path.{◌∙◌}
use Rattle.bus_tuples.proofs.SelectedLaws.{looked_up, immediate, framed}
use Rattle.bus_tuples.proofs.operand.selected.Goals as goal

pub returns-in-0-eq0 : goal.returns-in-0-eq0
returns-in-0-eq0 c = rw (c.in-0-eq0.is-0, c.in-0-eq0.is-1) (c.add.ensures ∙ looked_up c.args.operand c.args.value c.args.fp)

pub returns-in-0-eq1 : goal.returns-in-0-eq1
returns-in-0-eq1 c = rw (c.in-0-eq1.is-0, c.in-0-eq1.is-1) (c.add-in-0-eq1.ensures ∙ framed c.args.operand c.args.value c.args.fp)

pub returns-in-1-eq0 : goal.returns-in-1-eq0
returns-in-1-eq0 c = rw (c.in-1-eq0.is-0, c.in-1-eq0.is-1) (c.add-in-1-eq0.ensures ∙ immediate c.args.operand c.args.value c.args.fp)
