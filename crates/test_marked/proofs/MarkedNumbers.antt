-- The definitions give the marked numbers of document 01: the table's two columns are equal, by computation.
-- Assumes nothing.
use mathlib.Core.Path.{◌≡◌, refl}
use mathlib.Core.List.{map}
use Rattle.word.specs.Word.{◌+ₚ◌, ◌-ₚ◌, ◌*ₚ◌}
use Rattle.word.specs.Element.{◌+ₑ◌, ◌-ₑ◌, ◌*ₑ◌, nine, folded, peqₑ}
use Rattle.draw.specs.Draw.{advance}
use Rattle.test_marked.specs.Marked.{Row, table}

pub marked_numbers : map (λ (r : Row). r.given) table ≡ map (λ (r : Row). r.stated) table
unfolding ◌+ₚ◌ ◌-ₚ◌ ◌*ₚ◌ ◌+ₑ◌ ◌-ₑ◌ ◌*ₑ◌ nine folded peqₑ advance
marked_numbers = refl
