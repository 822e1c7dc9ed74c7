-- Draft 0.6.0, 3.5.3 and 3.5.5: the lookups and constraints of the extension table. The lookups are 18 to 21 in
-- document 01, and come first. x is a row and y the row paired with it. No case is made on y's start: the polynomials
-- are as they stand.
-- Declared in src/: Ext (rows).
use Rattle.std.specs.Prelude.{ℕ, List, [], ◌∷◌}
use Rattle.word.specs.Word.{◌+ₚ◌, ◌-ₚ◌, ◌*ₚ◌}
use Rattle.word.specs.Element.{element, ◌+ₑ◌, ◌-ₑ◌, ◌·ₑ◌, ◌*ₑ◌, peqₑ}
use Rattle.rows.specs.declared.Ext.{Ext}
use Rattle.rules.specs.Given.{Given, zero?, zero_element?, looks_up, looks_up_five, Rule, rule}

-- the selected element v_A
abbrev pub selected : Ext → List ℕ
selected x = x.be ·ₑ element x.base +ₑ (1 -ₚ x.be) ·ₑ x.vA

-- next(comp)·(1 - next(start))
abbrev pub comp_tail : Ext → List ℕ
comp_tail y = (1 -ₚ y.start) ·ₑ y.comp

unfoldable pub ext_rules : Given → Ext → Ext → List Rule
ext_rules g x y =
    rule 18 (looks_up g x.idxA x.base)
    ∷ rule 19 (looks_up_five g x.idxA x.vA)
    ∷ rule 20 (looks_up_five g x.idxB x.vB)
    ∷ rule 21 (looks_up_five g x.idxR x.res)
    ∷ rule 1 (zero? (x.be *ₚ (1 -ₚ x.be)))
    ∷ rule 2 (zero? (x.start *ₚ (1 -ₚ x.start)))
    ∷ rule 3 (zero? (x.add *ₚ (1 -ₚ x.add)))
    ∷ rule 4 (zero? (x.mul *ₚ (1 -ₚ x.mul)))
    ∷ rule 5 (zero? (x.peq *ₚ (1 -ₚ x.peq)))
    ∷ rule 6 (zero_element? (x.add ·ₑ (x.comp -ₑ (selected x +ₑ x.vB) -ₑ comp_tail y)))
    ∷ rule 7 (zero_element? (x.mul ·ₑ (x.comp -ₑ selected x *ₑ x.vB -ₑ comp_tail y)))
    ∷ rule 8 (zero_element? (x.peq ·ₑ (x.comp -ₑ peqₑ (selected x) x.vB *ₑ (comp_tail y +ₑ element y.start))))
    ∷ rule 9 (zero_element? (x.start ·ₑ (x.comp -ₑ x.res)))
    ∷ rule 10 (zero? ((1 -ₚ y.start) *ₚ (x.len -ₚ y.len -ₚ 1)))
    ∷ rule 11 (zero? ((1 -ₚ y.start) *ₚ (x.be -ₚ y.be)))
    ∷ rule 12 (zero? ((1 -ₚ y.start) *ₚ (x.add -ₚ y.add)))
    ∷ rule 13 (zero? ((1 -ₚ y.start) *ₚ (x.mul -ₚ y.mul)))
    ∷ rule 14 (zero? ((1 -ₚ y.start) *ₚ (x.peq -ₚ y.peq)))
    ∷ rule 15 (zero? ((1 -ₚ y.start) *ₚ (y.idxA -ₚ x.idxA -ₚ (x.be +ₚ (1 -ₚ x.be) *ₚ 5))))
    ∷ rule 16 (zero? ((1 -ₚ y.start) *ₚ (y.idxB -ₚ x.idxB -ₚ 5)))
    ∷ rule 17 (zero? (y.start *ₚ (x.len -ₚ 1)))
    ∷ []
