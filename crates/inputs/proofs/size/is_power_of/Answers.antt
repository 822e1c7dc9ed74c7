-- Both tests are the definition's.
use Rattle.inputs.proofs.size.is_power_of.Goals as goal

pub returns : goal.returns
returns c = cc
