-- Draft 0.6.0, 3.3.3: the selected values and the constraints of the execution table, numbered as document 01,
-- "Execution rules", numbers them. x is a row, y the row paired with it, and i the instruction at x's pc.
-- Declared in src/: Instruction (form); Exec (rows).
use Rattle.std.specs.Prelude.{ℕ, List, [], ◌∷◌, ltb}
use Rattle.word.specs.Word.{◌+ₚ◌, ◌-ₚ◌, ◌*ₚ◌}
use Rattle.form.specs.declared.Instruction.{Instruction}
use Rattle.rows.specs.declared.Exec.{Exec}
use Rattle.rules.specs.Given.{Given, zero?, looks_up, Rule, rule}

-- the selected values
abbrev pub νA : Instruction → Exec → ℕ
νA i x = i.fa *ₚ i.a +ₚ (1 -ₚ i.fa -ₚ i.fpab) *ₚ x.valueA +ₚ i.fpab *ₚ (x.fp +ₚ i.a)

abbrev pub νB : Instruction → Exec → ℕ
νB i x = i.fb *ₚ i.b +ₚ (1 -ₚ i.fb -ₚ i.fpab) *ₚ x.valueB +ₚ i.fpab *ₚ (x.fp +ₚ i.b)

abbrev pub νC : Instruction → Exec → ℕ
νC i x = i.fc *ₚ i.c +ₚ (1 -ₚ i.fc -ₚ i.fpc) *ₚ x.valueC +ₚ i.fpc *ₚ (x.fp +ₚ i.c)

-- 1/2 modulo p
abbrev pub half : ℕ
half = 1065353217

-- P₁(AUX) = AUX·(2 - AUX) and P₂(AUX) = AUX·(AUX - 1)/2
abbrev pub ADD : Instruction → ℕ
ADD i = i.aux *ₚ (2 -ₚ i.aux)

abbrev pub DEREF : Instruction → ℕ
DEREF i = i.aux *ₚ (i.aux -ₚ 1) *ₚ half

abbrev pub IS_PRECOMPILE : Instruction → ℕ
IS_PRECOMPILE i = 1 -ₚ (ADD i +ₚ i.mul +ₚ DEREF i +ₚ i.jump)

abbrev pub J : Instruction → Exec → ℕ
J i x = i.jump *ₚ νA i x

-- rule 1 is document 01's: pc in program. 2, 3 and 4 are lookups, made on every row even where unused
unfoldable pub exec_rules : Given → Exec → Exec → Instruction → List Rule
exec_rules g x y i =
    rule 1 (ltb x.pc g.count)
    ∷ rule 2 (looks_up g x.addrA x.valueA)
    ∷ rule 3 (looks_up g x.addrB x.valueB)
    ∷ rule 4 (looks_up g x.addrC x.valueC)
    ∷ rule 5 (zero? ((1 -ₚ i.fa -ₚ i.fpab) *ₚ (x.addrA -ₚ (x.fp +ₚ i.a))))
    ∷ rule 6 (zero? ((1 -ₚ i.fb -ₚ i.fpab) *ₚ (x.addrB -ₚ (x.fp +ₚ i.b))))
    ∷ rule 7 (zero? ((1 -ₚ i.fc -ₚ i.fpc) *ₚ (x.addrC -ₚ (x.fp +ₚ i.c))))
    ∷ rule 8 (zero? (ADD i *ₚ (νB i x -ₚ (νA i x +ₚ νC i x))))
    ∷ rule 9 (zero? (i.mul *ₚ (νB i x -ₚ νA i x *ₚ νC i x)))
    ∷ rule 10 (zero? (DEREF i *ₚ (x.addrB -ₚ (x.valueA +ₚ i.b))))
    ∷ rule 11 (zero? (DEREF i *ₚ (x.valueB -ₚ νC i x)))
    ∷ rule 12 (zero? (J i x *ₚ (1 -ₚ νA i x)))
    ∷ rule 13 (zero? (J i x *ₚ (y.pc -ₚ νB i x)))
    ∷ rule 14 (zero? (J i x *ₚ (y.fp -ₚ νC i x)))
    ∷ rule 15 (zero? ((1 -ₚ J i x) *ₚ (y.pc -ₚ (x.pc +ₚ 1))))
    ∷ rule 16 (zero? ((1 -ₚ J i x) *ₚ (y.fp -ₚ x.fp)))
    ∷ []
