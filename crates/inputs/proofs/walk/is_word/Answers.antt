-- The word read is the one tested.
use Rattle.inputs.proofs.walk.is_word.Goals as goal

pub returns : goal.returns
returns c = cc
