-- Exactly 50 of the 135 counters are possible.
use mathlib.Core.Path.{◌≡◌, refl}
use Rattle.grid_spec.specs.Possible.{possible_forms}

pub fifty : possible_forms ≡ 50
fifty = refl
