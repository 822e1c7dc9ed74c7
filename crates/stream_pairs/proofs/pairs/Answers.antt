-- `stream_pairs::pairs` meets its contract: the rule, computed, is the table that the code has.
-- Assumes nothing.
use mathlib.Core.Path.{refl}
use Rattle.stream_spec.specs.Pairs.{doubled, pairs_from}
use Rattle.stream_pairs.proofs.pairs.Goals as goal

pub returns : goal.returns
unfolding pairs_from doubled
returns c = refl
