-- All rows but two.
use mathlib.Core.Path.{refl}
use Rattle.range.proofs.walk.AcceptedRows.first_rows.Goals as goal

pub returns : goal.returns
returns c = refl
