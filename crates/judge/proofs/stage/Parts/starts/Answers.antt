-- The row that is read is row 0.
use Rattle.judge.proofs.stage.Parts.starts.Goals as goal

pub returns : goal.returns
returns c = rw (c.from-2.ensures, c.from.ensures, c.exec_inside-x.ensures)
