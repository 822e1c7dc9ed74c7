-- The name, and then the digits.
use Rattle.lines.proofs.Putting.{put_next}
use Rattle.label.proofs.writer.put_seed.Goals as goal

pub returns : goal.returns
returns c = put_next c.requires c.put.ensures (rw c.hex_line.ensures at c.put-2.ensures)
