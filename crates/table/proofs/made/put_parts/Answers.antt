-- `made::put_parts` meets its contract: each part goes where the one before it ends.
use Rattle.std.proofs.Common.{◌++◌, sym, arith, length-append}
use Rattle.program_build.proofs.Output.{fills_front}
use Rattle.lines.proofs.Putting.{put_next}
use Rattle.table.proofs.made.put_parts.Goals as goal

pub returns : goal.returns
returns c =
    let p = c.args.program.now in
    let m = c.args.memory.now in
    let e = c.args.exec.now in
    let x = c.args.ext.now in
    let two = length-append p m in
    let three = length-append (p ++ m) e in
    let four = length-append (p ++ m ++ e) x in
    let parts = put_next (omega arith) (put_next (omega arith) (put_next (omega arith) c.put.ensures c.put-2.ensures) c.put-3.ensures) c.put-4.ensures in
    let same = sym parts.same in
    fills_front (p ++ m ++ e ++ x) c.args.out.now (parts.place, grind (arith, same, parts.bytes))
