-- `output::table_label` meets its contract: nothing for a bad label or another m, and else the recipe's tables.
use Rattle.std.proofs.Common.{rules, refl}
use Rattle.program_build.proofs.Output.{inside}
use Rattle.table.proofs.Writing.{not_read, bad_label, other_m, good_label}
use Rattle.table.proofs.output.table_label.Goals as goal

pub returns-in_default : goal.returns-in_default
returns-in_default c =
    bad_label c.args.text.now c.args.out.now _ c.read_label.ensures (not_read c.read_label.result c.in_default.not-Ok)

pub returns-then-recipe-ne10 : goal.returns-then-recipe-ne10
returns-then-recipe-ne10 c =
    other_m c.args.text.now c.args.out.now _ c.in-Ok.ensures refl c.if-recipe-ne10.true

pub tables-requires : goal.tables-requires
tables-requires c = (inside c.args.text.now _ c.in-Ok.ensures refl, search rules, search rules)

pub returns : goal.returns
returns c =
    good_label c.args.text.now c.args.out.now _ c.in-Ok.ensures refl (search rules) c.tables.ensures
