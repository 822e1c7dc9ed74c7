-- The word that stands there is the cell's.
use Rattle.judge_lookups.proofs.buffers.Memory.compared_at.Goals as goal

pub returns : goal.returns
returns c = rw c.cell_inside.ensures at c.compared.ensures
