use Rattle.judge_exec.proofs.execution.address_holds.Goals as goal

pub returns : goal.returns
returns c = rw (c.gated.ensures, c.add.ensures, c.reads_cell.ensures)
