-- The groups of an execution row's rules, by the comparisons that show them.
-- Assumes nothing.
use borrow.Author.Tests.{eqb-true}
use mathlib.Core.Path.{◌≡◌, refl, sym, ◌∙◌}
use mathlib.Core.Bool.{true, ◌&&◌, ◌||◌}
use mathlib.Core.List.{List, [], ◌∷◌}
use Prim.Native.Nat.{ℕ, ◌+◌, ◌<◌}
use native.Mathlib.Omega.{arith}
use lib.Dec.{eqb}
use Rattle.word.specs.Word.{p, ◌+ₚ◌, ◌-ₚ◌, ◌*ₚ◌}
use Rattle.word.proofs.WordLaws.{difference_self, sum_zero}
use Rattle.form.specs.declared.Instruction.{Instruction}
use Rattle.word.proofs.Tests.{each, either}
use Rattle.rows.specs.declared.Exec.{Exec}
use Rattle.rules.specs.Given.{zero?}
use Rattle.rules.specs.Execution.{ADD, DEREF}
use Rattle.judge_exec.specs.Parts.{lookups_then, addressed, addresses_then, operations_then, jumps_then, exec_fails}
use Rattle.bus_tuples.proofs.SelectedLaws.{looked_up, immediate, framed}
use Rattle.bus_tuples.specs.Selected.{selected_of}
use Rattle.judge_lookups.proofs.Quick.{pass, shut_rule, same_rule, same_test}

-- one flag of two is 1, so no cell is read
no_cell : (flag fpFlag : ℕ) → flag + fpFlag ≡ 1 → 1 -ₚ flag -ₚ fpFlag ≡ 0
unfolding ◌-ₚ◌
no_cell flag fpFlag h = omega arith

-- what an operand's selected value is, and that its address rule holds
abbrev Shown : ℕ → ℕ → ℕ → ℕ → ℕ → ℕ → ℕ → Type 0
Shown r flag fpFlag operand addr value fp =
    (r ≡ selected_of flag fpFlag operand value fp) × (zero? (addressed flag fpFlag addr fp operand) ≡ true)

-- an operand by its flags: a cell at fp + operand, an immediate, and fp + operand itself
module _ (operand addr value fp : ℕ) where
  pub cell : value < p → addr ≡ fp +ₚ operand → Shown value 0 0 operand addr value fp
  cell w e = (sym (sum_zero value w) ∙ looked_up operand value fp, same_rule (1 -ₚ 0 -ₚ 0) addr (fp +ₚ operand) e)

  pub at_once : operand < p → Shown operand 1 0 operand addr value fp
  at_once w =
      (sym (sum_zero operand w) ∙ immediate operand value fp, shut_rule (1 -ₚ 1 -ₚ 0) (addr -ₚ (fp +ₚ operand)) (no_cell 1 0 refl))

  pub in_frame : Shown (fp +ₚ operand) 0 1 operand addr value fp
  in_frame = (framed operand value fp, shut_rule (1 -ₚ 0 -ₚ 1) (addr -ₚ (fp +ₚ operand)) (no_cell 0 1 refl))

-- the opcode words by AUX
add_off : (i : Instruction) → i.aux ≡ 0 → ADD i ≡ 0
unfolding ◌-ₚ◌ ◌*ₚ◌
add_off i e = rw e refl

add_of_deref : (i : Instruction) → i.aux ≡ 2 → ADD i ≡ 0
unfolding ◌-ₚ◌ ◌*ₚ◌
add_of_deref i e = rw e refl

deref_off : (i : Instruction) → i.aux ≡ 0 → DEREF i ≡ 0
unfolding ◌-ₚ◌ ◌*ₚ◌
deref_off i e = rw e refl

deref_of_add : (i : Instruction) → i.aux ≡ 1 → DEREF i ≡ 0
unfolding ◌-ₚ◌ ◌*ₚ◌
deref_of_add i e = rw e refl

module _ (i : Instruction) (x : Exec) (a b c : ℕ) where
  pub no_aux : i.aux ≡ 0 → (eqb i.mul 0 || eqb b (a *ₚ c)) ≡ true → (after : ℕ) → operations_then i x a b c after ≡ after
  no_aux z e after =
      let product =
      either (eqb i.mul 0) (eqb b (a *ₚ c))
      (λ t. shut_rule i.mul (b -ₚ a *ₚ c) (eqb-true i.mul 0 t))
      (λ t. same_test i.mul b (a *ₚ c) t)
      e in
      let off = deref_off i z in
      pass 8 (shut_rule (ADD i) (b -ₚ (a +ₚ c)) (add_off i z))
      (pass 9 product
      (pass 10 (shut_rule (DEREF i) (x.addrB -ₚ (x.valueA +ₚ i.b)) off)
      (pass 11 (shut_rule (DEREF i) (x.valueB -ₚ c) off) refl)))

  pub adds : i.aux ≡ 1 → (eqb i.mul 0 && eqb b (a +ₚ c)) ≡ true → (after : ℕ) → operations_then i x a b c after ≡ after
  adds z e after =
      let t = each (eqb i.mul 0) (eqb b (a +ₚ c) ∷ []) e in
      let off = deref_of_add i z in
      pass 8 (same_test (ADD i) b (a +ₚ c) t.1)
      (pass 9 (shut_rule i.mul (b -ₚ a *ₚ c) (eqb-true i.mul 0 t.0))
      (pass 10 (shut_rule (DEREF i) (x.addrB -ₚ (x.valueA +ₚ i.b)) off)
      (pass 11 (shut_rule (DEREF i) (x.valueB -ₚ c) off) refl)))

  pub derefs : (eqb i.aux 2 && eqb i.mul 0 && eqb x.addrB (x.valueA +ₚ i.b) && eqb x.valueB c) ≡ true
      → (after : ℕ) → operations_then i x a b c after ≡ after
  derefs e after =
      let t = each (eqb i.aux 2) (eqb i.mul 0 ∷ eqb x.addrB (x.valueA +ₚ i.b) ∷ eqb x.valueB c ∷ []) e in
      pass 8 (shut_rule (ADD i) (b -ₚ (a +ₚ c)) (add_of_deref i (eqb-true i.aux 2 t.0)))
      (pass 9 (shut_rule i.mul (b -ₚ a *ₚ c) (eqb-true i.mul 0 t.1.0))
      (pass 10 (same_test (DEREF i) x.addrB (x.valueA +ₚ i.b) t.1.1.0)
      (pass 11 (same_test (DEREF i) x.valueB c t.1.1.1) refl)))

module _ (j : ℕ) (x y : Exec) (a b c : ℕ) where
  pub goes_on : j ≡ 0 → (eqb y.pc (x.pc +ₚ 1) && eqb y.fp x.fp) ≡ true → jumps_then j x y a b c 0 ≡ 0
  goes_on z e =
      let t = each (eqb y.pc (x.pc +ₚ 1)) (eqb y.fp x.fp ∷ []) e in
      pass 12 (shut_rule j (1 -ₚ a) z)
      (pass 13 (shut_rule j (y.pc -ₚ b) z)
      (pass 14 (shut_rule j (y.fp -ₚ c) z)
      (pass 15 (same_test (1 -ₚ j) y.pc (x.pc +ₚ 1) t.0)
      (pass 16 (same_test (1 -ₚ j) y.fp x.fp t.1) refl))))

  pub jumps_to : (eqb j 1 && eqb a 1 && eqb y.pc b && eqb y.fp c) ≡ true → jumps_then j x y a b c 0 ≡ 0
  jumps_to e =
      let t = each (eqb j 1) (eqb a 1 ∷ eqb y.pc b ∷ eqb y.fp c ∷ []) e in
      let stay : 1 -ₚ j ≡ 0 = rw (eqb-true j 1 t.0, difference_self) in
      pass 12 (same_rule j 1 a (sym (eqb-true a 1 t.1.0)))
      (pass 13 (same_test j y.pc b t.1.1.0)
      (pass 14 (same_test j y.fp c t.1.1.1)
      (pass 15 (shut_rule (1 -ₚ j) (y.pc -ₚ (x.pc +ₚ 1)) stay)
      (pass 16 (shut_rule (1 -ₚ j) (y.fp -ₚ x.fp) stay) refl))))

-- all but rule 1, for what the selected values are
pub all_hold : (memory : List ℕ) (x y : Exec) (i : Instruction) (a b c j : ℕ)
    → Shown a i.fa i.fpab i.a x.addrA x.valueA x.fp
    → Shown b i.fb i.fpab i.b x.addrB x.valueB x.fp
    → Shown c i.fc i.fpc i.c x.addrC x.valueC x.fp
    → j ≡ i.jump *ₚ a
    → ((after : ℕ) → lookups_then memory x after ≡ after)
    → ((after : ℕ) → operations_then i x a b c after ≡ after)
    → jumps_then j x y a b c 0 ≡ 0
    → exec_fails memory x y i ≡ 0
all_hold memory x y i a b c j sa sb sc ej looked operated moved =
    let placed : (after : ℕ) → addresses_then i x after ≡ after = λ after. pass 5 sa.1 (pass 6 sb.1 (pass 7 sc.1 refl)) in
    rw (← sa.0, ← sb.0, ← sc.0, ← ej) (looked _ ∙ placed _ ∙ operated _ ∙ moved)
