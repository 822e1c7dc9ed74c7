-- What stood there is the row's own.
use Rattle.judge.proofs.stage.Parts.exec_refused.Goals as goal

pub returns : goal.returns
returns c = rw c.exec_found-stood.ensures
