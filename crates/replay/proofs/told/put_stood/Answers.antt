-- The second line goes where the first ends.
use Rattle.std.proofs.Common.{arith}
use Rattle.replay.proofs.SixLines.{stood_most, two_put}
use Rattle.replay.proofs.told.put_stood.Goals as goal

pub put_line-requires : goal.put_line-requires
put_line-requires c = grind (arith, stood_most c.args.numbers)

pub put_line-requires-2 : goal.put_line-requires-2
put_line-requires-2 c = grind (arith, stood_most c.args.numbers)

pub returns : goal.returns
returns c =
    two_put c.args.numbers c.requires (rw c.from.ensures at c.put_line.ensures) (rw c.from-2.ensures at c.put_line-2.ensures)
