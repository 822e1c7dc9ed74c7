-- The invariant: n is the number of finds of the first r rows.
use mathlib.Core.Path.{◌≡◌}
use mathlib.Core.List.{[]}
use Prim.Native.Nat.{◌≤◌}
use Rattle.rules.specs.Sizes.{given, tables}
use Rattle.range_spec.specs.Finds.{number_below}
use Rattle.range.proofs.walk.AcceptedRows.count_finds.Given as goal

abbrev pub invariant-loop-r : goal.invariant-loop-r
invariant-loop-r l = (l.n ≤ l.r) × (l.n ≡ number_below (given l.self.rows.program.now []) (tables l.self.rows.exec.now []) l.r)
