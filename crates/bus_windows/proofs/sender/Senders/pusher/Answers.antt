-- The row's tuple is read where it pushes.
use mathlib.Core.Path.{refl, sym}
use native.Mathlib.Omega.{arith}
use Rattle.bus_tuples.proofs.Pushing.{no_push, one_push}
use Rattle.bus_windows.proofs.sender.Senders.pusher.Goals as goal

pub returns-then-not-row_pushes : goal.returns-then-not-row_pushes
returns-then-not-row_pushes c = omega (arith, no_push c.row_pushes.result c.row_pushes.ensures c.if-not-row_pushes.true)

pub returns : goal.returns
returns c =
    record {
      plus_is = sym (one_push c.row_pushes.result c.row_pushes.ensures c.if-not-row_pushes.false);
      minus_is = refl;
      some = λ none. absurd (omega arith);
      tuple_is = c.row_tuple.ensures;
    }
