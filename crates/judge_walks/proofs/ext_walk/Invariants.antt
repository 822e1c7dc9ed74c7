-- The walk stops at the first row that has a rule that fails.
use mathlib.Core.Path.{◌≡◌}
use mathlib.Core.List.{[]}
use Prim.Native.Nat.{◌/◌}
use lib.ListN.{length}
use Rattle.rules.specs.Sizes.{given, tables}
use Rattle.judge_spec.specs.Judged.{ext_failing}
use Rattle.judge_lookups.specs.Joined.{joined}
use Rattle.judge_walks.proofs.Rows.{At}
use Rattle.judge_walks.proofs.ext_walk.Given as goal

abbrev pub invariant-loop-r : goal.invariant-loop-r
invariant-loop-r l =
    (l.n ≡ length l.ext / 120) × At (ext_failing (given [] (joined l.memory)) (tables [] l.ext)) (length l.ext / 120) l.ext 30 l.r l.words
