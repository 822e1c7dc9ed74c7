-- The two lines go where the four end.
use Rattle.std.proofs.Common.{sym, arith}
use Rattle.replay.specs.Replay.{lines_of}
use Rattle.replay.proofs.SixLines.{four_long, six_put}
use Rattle.replay.proofs.told.put_answer.Goals as goal

pub put_stood-requires : goal.put_stood-requires
put_stood-requires c = omega (arith, four_long c.six_numbers-numbers.result)

pub returns : goal.returns
unfolding lines_of
returns c =
    let numbers = c.six_numbers-numbers in
    let put = rw numbers.ensures at (six_put numbers.result (omega arith) c.put_named.ensures c.put_stood.ensures) in
    let same = sym put.same in
    (put.place, grind (arith, same, put.bytes))
