-- Each element is cells 0 to 4.
use mathlib.Core.Path.{◌≡◌}
use native.Mathlib.Omega.{arith}
use Rattle.std.proofs.lemmas.Grind.{common_steps}
use Rattle.machine.specs.Extension.{element_at}
use Rattle.rules.specs.Sizes.{word_of}
use Rattle.tables.specs.Groups.{padding}
use Rattle.tabler_rows.proofs.padding.padding_row.Goals as goal

pub returns : goal.returns
unfolding padding
returns c =
    let five : c.from_fn-five.result ≡ element_at (word_of c.args.memory.now) 0 = grind (arith, common_steps) in
    rw five
