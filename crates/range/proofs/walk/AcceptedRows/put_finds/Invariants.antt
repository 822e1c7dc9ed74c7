-- The invariant: the finds of the first r rows stand one behind the other.
use mathlib.Core.List.{[]}
use Rattle.lines.specs.Putting.{Put}
use Rattle.rules.specs.Sizes.{given, tables}
use Rattle.range_spec.specs.Finds.{finds_below}
use Rattle.range.proofs.walk.AcceptedRows.put_finds.Given as goal

abbrev pub invariant-loop-r : goal.invariant-loop-r
invariant-loop-r l = Put l.initial.out (finds_below (given l.self.rows.program.now []) (tables l.self.rows.exec.now []) l.r) l.out
