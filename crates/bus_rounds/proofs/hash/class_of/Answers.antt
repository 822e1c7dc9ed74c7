-- The definition's quotient and remainder.
use Rattle.bus_rounds.specs.Slots.{class_of}
use Rattle.bus_rounds.proofs.hash.class_of.Goals as goal

pub returns : goal.returns
unfolding class_of
returns c = cc
