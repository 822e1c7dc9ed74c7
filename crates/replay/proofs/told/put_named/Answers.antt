-- Each line goes where the one before it ends.
use Rattle.std.proofs.Common.{arith}
use Rattle.replay.proofs.SixLines.{lines_most, four_put}
use Rattle.replay.proofs.told.put_named.Goals as goal

pub put_line-requires : goal.put_line-requires
put_line-requires c = grind (arith, lines_most c.args.numbers)

pub put_line-requires-2 : goal.put_line-requires-2
put_line-requires-2 c = grind (arith, lines_most c.args.numbers)

pub put_line-requires-3 : goal.put_line-requires-3
put_line-requires-3 c = grind (arith, lines_most c.args.numbers)

pub put_line-requires-4 : goal.put_line-requires-4
put_line-requires-4 c = grind (arith, lines_most c.args.numbers)

pub returns : goal.returns
returns c =
    four_put c.args.numbers c.requires (rw c.from.ensures at c.put_line.ensures) (rw c.from-2.ensures at c.put_line-2.ensures)
    (rw c.from-3.ensures at c.put_line-3.ensures)
    (rw c.from-4.ensures at c.put_line-4.ensures)
