-- The name, and then the digits as they stand at the end of their array.
use Rattle.lines.proofs.Putting.{put_next}
use Rattle.lines.proofs.Out.put_number.Goals as goal

pub returns : goal.returns
returns c = put_next c.requires c.put.ensures (rw c.ended_digits.ensures at c.put-2.ensures)
