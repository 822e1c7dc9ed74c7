-- One cell does not cross the seam.
use mathlib.Core.Path.{◌∙◌}
use Rattle.judge_lookups.proofs.Seam.{one_held}
use Rattle.judge_lookups.proofs.buffers.Memory.cell.Goals as goal

pub returns : goal.returns
returns c = c.cells.ensures ∙ one_held _ _ _ c.args.self.seam_between
