-- There are bytes exactly where the cell is there.
use Rattle.judge_lookups.proofs.Cells.{some_bytes}
use Rattle.judge_lookups.specs.Joined.{joined}
use Rattle.judge_lookups.proofs.buffers.Memory.there.Goals as goal

pub returns : goal.returns
returns c = let s = c.args in some_bytes (joined s.self) s.addr c.cell.ensures
