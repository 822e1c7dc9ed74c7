-- The invariant: the first i lines are read, and their instructions stand in front of what stood there.
use mathlib.Core.List.{List}
use mathlib.Core.Path.{◌≡◌}
use lib.ListN.{length}
use Rattle.form.specs.declared.Form.{Form}
use Rattle.listing_reader.proofs.Ends.{Behind}
use Rattle.listing_reader.proofs.Filling.{filled}
use Rattle.listing_reader.proofs.fill.put_forms.Given as goal

abbrev pub invariant-loop-i : goal.invariant-loop-i
invariant-loop-i l =
    (length l.program ≡ length l.initial.program) × ((fs : List Form) × (length fs ≡ l.i) × Behind l.text l.place fs × (l.program ≡ filled fs l.initial.program))
