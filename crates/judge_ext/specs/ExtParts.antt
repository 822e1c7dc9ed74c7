-- Inner: the rules of one extension row, those of `rules` in the groups in which the code walks them; each group ends
-- in what comes after it.
-- Declared in src/: Ext (rows).
use Rattle.std.specs.Prelude.{cond, ℕ, ◌*◌, ◌/◌, List, length}
use Rattle.word.specs.Word.{◌+ₚ◌, ◌-ₚ◌, ◌*ₚ◌}
use Rattle.word.specs.Element.{element, ◌+ₑ◌, ◌-ₑ◌, ◌·ₑ◌, ◌*ₑ◌, peqₑ}
use Rattle.rows.specs.declared.Ext.{Ext}
use Rattle.rows.specs.Rows.{ext_at}
use Rattle.rules.specs.Given.{zero?, zero_element?, next}
use Rattle.rules.specs.Extension.{selected, comp_tail}
use Rattle.judge_lookups.specs.Memory.{cell_is, cells_are}

-- row r of a table, and the row paired with it
abbrev pub row_of : List ℕ → ℕ → Ext
row_of ext r = ext_at ext (120 * r)

abbrev pub paired_row : List ℕ → ℕ → Ext
paired_row ext r = ext_at ext (120 * next (length ext / 120) r)

-- rules 18 to 21
abbrev pub ext_lookups_then : List ℕ → Ext → ℕ → ℕ
ext_lookups_then memory x rest =
    cond (cell_is memory x.idxA x.base)
    (cond (cells_are memory x.idxA x.vA)
    (cond (cells_are memory x.idxB x.vB)
    (cond (cells_are memory x.idxR x.res) rest 21)
    20)
    19)
    18

-- rules 1 to 5
abbrev pub bits_then : Ext → ℕ → ℕ
bits_then x rest =
    cond (zero? (x.be *ₚ (1 -ₚ x.be)))
    (cond (zero? (x.start *ₚ (1 -ₚ x.start)))
    (cond (zero? (x.add *ₚ (1 -ₚ x.add)))
    (cond (zero? (x.mul *ₚ (1 -ₚ x.mul)))
    (cond (zero? (x.peq *ₚ (1 -ₚ x.peq))) rest 5)
    4)
    3)
    2)
    1

-- rules 6 to 9, for the selected element v and the tail
abbrev pub sum_of : ℕ → List ℕ → List ℕ → List ℕ → List ℕ → List ℕ
sum_of flag comp v b tail = flag ·ₑ (comp -ₑ (v +ₑ b) -ₑ tail)

abbrev pub product_of : ℕ → List ℕ → List ℕ → List ℕ → List ℕ → List ℕ
product_of flag comp v b tail = flag ·ₑ (comp -ₑ v *ₑ b -ₑ tail)

abbrev pub peq_of : ℕ → List ℕ → List ℕ → List ℕ → List ℕ → ℕ → List ℕ
peq_of flag comp v b tail start = flag ·ₑ (comp -ₑ peqₑ v b *ₑ (tail +ₑ element start))

abbrev pub result_of : ℕ → List ℕ → List ℕ → List ℕ
result_of start comp res = start ·ₑ (comp -ₑ res)

abbrev pub operates_then : Ext → Ext → List ℕ → List ℕ → ℕ → ℕ
operates_then x y v tail rest =
    cond (zero_element? (sum_of x.add x.comp v x.vB tail))
    (cond (zero_element? (product_of x.mul x.comp v x.vB tail))
    (cond (zero_element? (peq_of x.peq x.comp v x.vB tail y.start)) rest 8)
    7)
    6

abbrev pub accumulates_then : Ext → Ext → List ℕ → List ℕ → ℕ → ℕ
accumulates_then x y v tail rest =
    operates_then x y v tail (cond (zero_element? (result_of x.start x.comp x.res)) rest 9)

-- rules 10 to 14, and 15 to 17; inside is 1 - next(start)
abbrev pub sames_then : ℕ → Ext → Ext → ℕ → ℕ
sames_then inside x y rest =
    cond (zero? (inside *ₚ (x.len -ₚ y.len -ₚ 1)))
    (cond (zero? (inside *ₚ (x.be -ₚ y.be)))
    (cond (zero? (inside *ₚ (x.add -ₚ y.add)))
    (cond (zero? (inside *ₚ (x.mul -ₚ y.mul)))
    (cond (zero? (inside *ₚ (x.peq -ₚ y.peq))) rest 14)
    13)
    12)
    11)
    10

abbrev pub steps_then : ℕ → Ext → Ext → ℕ → ℕ
steps_then inside x y rest =
    cond (zero? (inside *ₚ (y.idxA -ₚ x.idxA -ₚ (x.be +ₚ (1 -ₚ x.be) *ₚ 5))))
    (cond (zero? (inside *ₚ (y.idxB -ₚ x.idxB -ₚ 5)))
    (cond (zero? (y.start *ₚ (x.len -ₚ 1))) rest 17)
    16)
    15

-- all twenty-one
abbrev pub ext_fails : List ℕ → Ext → Ext → ℕ
ext_fails memory x y =
    ext_lookups_then memory x
    (bits_then x
    (accumulates_then x y (selected x) (comp_tail y)
    (sames_then (1 -ₚ y.start) x y
    (steps_then (1 -ₚ y.start) x y 0))))
