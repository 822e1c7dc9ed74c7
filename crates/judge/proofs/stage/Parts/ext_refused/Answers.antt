-- What stood there is the row's own.
use Rattle.judge.proofs.stage.Parts.ext_refused.Goals as goal

pub returns : goal.returns
returns c = rw c.ext_found-stood.ensures
