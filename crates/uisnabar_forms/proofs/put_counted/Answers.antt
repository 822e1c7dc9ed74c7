-- `uisnabar_forms::put_counted` meets its contract: the grid is written where the answer is ACCEPTED.
use borrow.Author.Rules.{rules}
use mathlib.Core.Path.{sym, ◌∙◌}
use Rattle.uisnabar_forms.proofs.put_counted.Goals as goal

pub returns-then-accepted : goal.returns-then-accepted
returns-then-accepted c =
    rw (sym c.accepted.ensures ∙ c.if-accepted.true) c.write_grid.ensures

pub returns-else-accepted : goal.returns-else-accepted
returns-else-accepted c = rw (sym c.accepted.ensures ∙ c.if-accepted.false)
