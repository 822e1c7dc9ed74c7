-- Four texts, each where the one before it ends.
use native.Mathlib.Omega.{arith}
use Rattle.grid_report.proofs.Texts.{name_length, name_put}
use Rattle.grid_report.proofs.names.put_name.Goals as goal

pub put_ended-requires : goal.put_ended-requires
put_ended-requires c = grind (arith, name_length c.args.k)

pub put_ended-requires-2 : goal.put_ended-requires-2
put_ended-requires-2 c = grind (arith, name_length c.args.k)

pub put_ended-requires-3 : goal.put_ended-requires-3
put_ended-requires-3 c = grind (arith, name_length c.args.k)

pub put_ended-requires-4 : goal.put_ended-requires-4
put_ended-requires-4 c = grind (arith, name_length c.args.k)

pub returns : goal.returns
returns c =
    name_put c.args.k c.requires.1 (rw c.kind_text-kind.ensures at c.put_ended.ensures) (rw c.mode_text-a.ensures at c.put_ended-2.ensures)
    (rw c.mode_text-b.ensures at c.put_ended-3.ensures)
    (rw c.mode_text-c.ensures at c.put_ended-4.ensures)
