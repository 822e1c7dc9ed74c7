-- By the promises of the maker and the tabler.
use Rattle.program_build.proofs.Recipes.{built}
use Rattle.program_build.proofs.build.Goals as goal

pub returns : goal.returns
returns c =
    let s = c in
    let m = c.make.ensures in
    let t = c.table.ensures in
    built s.args.recipe s.args.program.now s.args.memory.now s.args.exec.now s.args.ext.now s.requires m.1 m.2 t.exec_after t.ext_after
