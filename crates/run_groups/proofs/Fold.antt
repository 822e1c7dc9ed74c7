-- A row's polynomials against the fold of document 01's machine: the selected element is a_j, and what the next row
-- leaves is its comp, or nothing where it starts a group.
-- Assumes nothing.
use mathlib.Core.Path.{◌≡◌, ◌∙◌, ap, ap₂}
use mathlib.Core.Bool.{Bool, true, false}
use mathlib.Core.List.{List}
use Prim.Native.Nat.{ℕ}
use Rattle.word.specs.Word.{◌+ₚ◌, ◌-ₚ◌}
use Rattle.word.specs.Element.{IsElement, element, ◌+ₑ◌}
use Rattle.word.proofs.ElementLaws.{word_element, element_sum_zero, scale_one, scale_zero}
use Rattle.form.specs.Data.{bit}
use Rattle.form.specs.declared.Op.{Op}
use Rattle.form.specs.declared.Op.TheVariants.{Add, Mul, Peq}
use Rattle.rows.specs.declared.Ext.{Ext}
use Rattle.rules.specs.Extension.{selected, comp_tail}
use Rattle.machine.specs.Extension.{element_at, left_at, nothing}
use Rattle.tables.specs.Groups.{left_index}
use Rattle.run_groups.proofs.Words.{zero_sum_element}
use Rattle.run_groups.proofs.Meaning.{RowWords, rest_of}

tail_inside : (y : Ext) → IsElement y.comp → y.start ≡ 0 → comp_tail y ≡ y.comp
unfolding ◌-ₚ◌
tail_inside y w z = rw z (scale_one y.comp w)

tail_end : (y : Ext) → y.start ≡ 1 → comp_tail y ≡ element 0
unfolding ◌-ₚ◌
tail_end y one = rw one (scale_zero y.comp)

pub rest_inside : (op : Op) (y : Ext) → IsElement y.comp → y.start ≡ 0 → rest_of op y ≡ y.comp
rest_inside Add y w z = tail_inside y w z
rest_inside Mul y w z = tail_inside y w z
rest_inside Peq y w z =
    ap₂ (λ (c : List ℕ) (s : ℕ). c +ₑ element s) (tail_inside y w z) z ∙ element_sum_zero y.comp w

pub rest_end : (op : Op) (y : Ext) → y.start ≡ 1 → rest_of op y ≡ nothing op
unfolding ◌+ₑ◌ ◌+ₚ◌
rest_end Add y one = tail_end y one
rest_end Mul y one = tail_end y one
rest_end Peq y one = ap₂ (λ (c : List ℕ) (s : ℕ). c +ₑ element s) (tail_end y one) one

pub selected_left : (cell : ℕ → ℕ) (be : Bool) (a j : ℕ) (x : Ext) → RowWords x → x.be ≡ bit be
    → x.base ≡ cell (left_index be a j) → x.vA ≡ element_at cell (left_index be a j) → selected x ≡ left_at cell be a j
unfolding ◌-ₚ◌
selected_left cell true a j x w e base vA =
    let we = word_element x.base w.base in
    rw (e, scale_one (element x.base) we, scale_zero x.vA) (element_sum_zero (element x.base) we ∙ ap element base)
selected_left cell false a j x w e base vA =
    rw (e, scale_zero (element x.base), scale_one x.vA w.vA) (zero_sum_element x.vA w.vA ∙ vA)
