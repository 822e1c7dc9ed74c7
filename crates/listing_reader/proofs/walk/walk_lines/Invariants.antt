-- The invariant: so many lines are read, up to a place, and the rest tells how the text ends. The measure is the lines
-- that may still come.
use Prim.Native.Nat.{◌-◌, ◌≤◌}
use mathlib.Core.List.{List}
use mathlib.Core.Path.{◌≡◌}
use lib.ListN.{length}
use Rattle.form.specs.declared.Form.{Form}
use Rattle.listing_reader.proofs.Ends.{Behind}
use Rattle.listing_reader.proofs.walk.walk_lines.Given as goal

abbrev pub invariant-loop-at : goal.invariant-loop-at
invariant-loop-at l = (fs : List Form) × (length fs ≡ l.lines) × Behind l.text l.at fs × (l.lines ≤ 1048576)

abbrev pub decreases-loop-at : goal.decreases-loop-at
decreases-loop-at l = 1048577 - l.lines
