-- The walk stops at the first row that has a rule that fails; what the rows passed push is followed.
use mathlib.Core.Path.{◌≡◌}
use mathlib.Core.List.{[]}
use Prim.Native.Nat.{◌/◌}
use lib.ListN.{length}
use Rattle.rules.specs.Sizes.{given, tables}
use Rattle.judge_spec.specs.Judged.{exec_failing}
use Rattle.bus_tuples.specs.Order.{pulled_by}
use Rattle.judge_lookups.specs.Joined.{joined}
use Rattle.judge_walks.proofs.Rows.{At}
use Rattle.judge_walks.proofs.exec_walk.Given as goal

abbrev pub invariant-loop-r : goal.invariant-loop-r
invariant-loop-r l =
    (l.n ≡ length l.exec / 32)
    × At (exec_failing (given l.program (joined l.memory)) (tables l.exec [])) (length l.exec / 32) l.exec 8 l.r l.words
    × (l.pulled ≡ pulled_by l.program l.exec l.ext l.r)
