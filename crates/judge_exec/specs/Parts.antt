-- Inner: the rules of one execution row, those of `rules` in the groups in which the code walks them; each group ends
-- in what comes after it.
-- Declared in src/: Instruction (form); Exec (rows).
use Rattle.std.specs.Prelude.{cond, ℕ, List}
use Rattle.word.specs.Word.{◌+ₚ◌, ◌-ₚ◌, ◌*ₚ◌}
use Rattle.form.specs.declared.Instruction.{Instruction}
use Rattle.rows.specs.declared.Exec.{Exec}
use Rattle.rules.specs.Given.{zero?}
use Rattle.rules.specs.Execution.{ADD, DEREF}
use Rattle.judge_lookups.specs.Memory.{cell_is}
use Rattle.bus_tuples.specs.Selected.{selected_of}

-- rules 2 to 4
abbrev pub lookups_then : List ℕ → Exec → ℕ → ℕ
lookups_then memory x rest =
    cond (cell_is memory x.addrA x.valueA)
    (cond (cell_is memory x.addrB x.valueB)
    (cond (cell_is memory x.addrC x.valueC) rest 4)
    3)
    2

-- an address rule: 5, 6 or 7
abbrev pub addressed : ℕ → ℕ → ℕ → ℕ → ℕ → ℕ
addressed flag fpFlag addr fp operand = (1 -ₚ flag -ₚ fpFlag) *ₚ (addr -ₚ (fp +ₚ operand))

abbrev pub addresses_then : Instruction → Exec → ℕ → ℕ
addresses_then i x rest =
    cond (zero? (addressed i.fa i.fpab x.addrA x.fp i.a))
    (cond (zero? (addressed i.fb i.fpab x.addrB x.fp i.b))
    (cond (zero? (addressed i.fc i.fpc x.addrC x.fp i.c)) rest 7)
    6)
    5

-- rules 8 to 11, for the selected values a, b and c
abbrev pub operations_then : Instruction → Exec → ℕ → ℕ → ℕ → ℕ → ℕ
operations_then i x a b c rest =
    cond (zero? (ADD i *ₚ (b -ₚ (a +ₚ c))))
    (cond (zero? (i.mul *ₚ (b -ₚ a *ₚ c)))
    (cond (zero? (DEREF i *ₚ (x.addrB -ₚ (x.valueA +ₚ i.b))))
    (cond (zero? (DEREF i *ₚ (x.valueB -ₚ c))) rest 11)
    10)
    9)
    8

-- rules 12 to 16
abbrev pub jumps_then : ℕ → Exec → Exec → ℕ → ℕ → ℕ → ℕ → ℕ
jumps_then j x y a b c rest =
    cond (zero? (j *ₚ (1 -ₚ a)))
    (cond (zero? (j *ₚ (y.pc -ₚ b)))
    (cond (zero? (j *ₚ (y.fp -ₚ c)))
    (cond (zero? ((1 -ₚ j) *ₚ (y.pc -ₚ (x.pc +ₚ 1))))
    (cond (zero? ((1 -ₚ j) *ₚ (y.fp -ₚ x.fp))) rest 16)
    15)
    14)
    13)
    12

-- all but rule 1
abbrev pub exec_fails : List ℕ → Exec → Exec → Instruction → ℕ
exec_fails memory x y i =
    let a = selected_of i.fa i.fpab i.a x.valueA x.fp in
    let b = selected_of i.fb i.fpab i.b x.valueB x.fp in
    let c = selected_of i.fc i.fpc i.c x.valueC x.fp in
    lookups_then memory x (addresses_then i x (operations_then i x a b c (jumps_then (i.jump *ₚ a) x y a b c 0)))
