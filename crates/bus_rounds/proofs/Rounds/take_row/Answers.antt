-- A row that pushes nothing, or a tuple of another class, takes from no tuple of the class.
use mathlib.Core.Path.{◌∙◌}
use Rattle.bus_tuples.proofs.Pushing.{no_push, one_push}
use Rattle.bus_rounds.proofs.Held.{pushes_nothing, pushes_other, pushes_once}
use Rattle.bus_rounds.proofs.Rounds.take_row.Goals as goal

pub returns-then-not-row_pushes : goal.returns-then-not-row_pushes
returns-then-not-row_pushes c = λ _ taken. pushes_nothing taken (no_push c.row_pushes.result c.row_pushes.ensures c.if-not-row_pushes.true)

pub returns-then-class_of-class : goal.returns-then-class_of-class
returns-then-class_of-class c = λ _ taken. pushes_other taken (λ e. c.if-class_of-class.true (c.class_of.ensures ∙ rw c.row_tuple-t.ensures e))

pub returns : goal.returns
returns c =
    λ e taken.
    pushes_once taken (one_push c.row_pushes.result c.row_pushes.ensures c.if-not-row_pushes.false) (rw c.row_tuple-t.ensures at (c.take_slot.ensures e))
