-- No slot passed is live.
use mathlib.Core.Path.{sym, ap, ◌∙◌}
use mathlib.Core.List.{[], ◌∷◌}
use mathlib.Core.Bool.{not}
use borrow.Author.Count.{below_more}
use borrow.Author.Tests.{not-true}
use Rattle.word.proofs.Tests.{each}
use Rattle.bus_rounds.specs.Slots.{live}
use Rattle.bus_rounds.proofs.slot.Slots.none_waits.Goals as goal

pub loop-s-preserved : goal.loop-s-preserved
loop-s-preserved c =
    λ e.
    let both = each c.loop-s.none (not c.is_live.result ∷ []) e in
    below_more _ _ (c.loop-s.invariant both.0) (ap live (sym c.number.ensures) ∙ sym c.is_live.ensures ∙ not-true _ both.1)
