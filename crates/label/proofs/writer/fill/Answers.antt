-- Each line goes where the one before it ends.
use native.Mathlib.Omega.{arith}
use Rattle.label.proofs.FourLines.{four_long, four_put}
use Rattle.label.proofs.writer.fill.Goals as goal

pub put_line-requires : goal.put_line-requires
put_line-requires c = grind (arith, four_long c.args.recipe)

pub put_seed-requires : goal.put_seed-requires
put_seed-requires c = grind (arith, four_long c.args.recipe)

pub put_line-requires-2 : goal.put_line-requires-2
put_line-requires-2 c = grind (arith, four_long c.args.recipe)

pub put_line-requires-3 : goal.put_line-requires-3
put_line-requires-3 c = grind (arith, four_long c.args.recipe)

pub returns : goal.returns
returns c =
    four_put c.args.recipe c.requires (rw c.from.ensures at c.put_line.ensures) c.put_seed.ensures (rw c.from-2.ensures at c.put_line-2.ensures)
    (rw c.from-3.ensures at c.put_line-3.ensures)
