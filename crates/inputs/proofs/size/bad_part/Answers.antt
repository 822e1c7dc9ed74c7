-- Each test is the definition's.
use Rattle.inputs.proofs.size.bad_part.Goals as goal

pub returns : goal.returns
returns c = cc
