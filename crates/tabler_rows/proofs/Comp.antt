-- A row of a group has what the elements from it on come to.
-- Assumes nothing.
use mathlib.Core.Path.{◌≡◌, ap}
use Prim.Native.Nat.{ℕ}
use Rattle.rows.specs.declared.Ext.{Ext}
use Rattle.tables.specs.Groups.{group_row}
use Rattle.tabler_operands.specs.Elements.{result_from}
use Rattle.tabler_operands.specs.declared.Group.{Group}
use Rattle.tabler_rows.specs.Placed.{row_in}

pub group_comp : (cell : ℕ → ℕ) (g : Group) (j : ℕ) {x : Ext} → x ≡ row_in cell g j → x.comp ≡ result_from cell g j
unfolding group_row
group_comp cell g j e = ap (λ (x : Ext). x.comp) e
