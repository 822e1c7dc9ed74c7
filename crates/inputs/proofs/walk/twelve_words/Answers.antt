-- Each of the two eights as `eight_words` promises.
use Rattle.inputs.proofs.walk.twelve_words.Goals as goal

pub returns : goal.returns
returns c = cc
