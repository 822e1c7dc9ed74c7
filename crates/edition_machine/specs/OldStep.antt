-- Draft 0.5.0, 2.4, as document 02, M-102 reads it: a step, or stuck with the first reason in STUCK's order. JUMP takes
-- dest from B and frame from C, as 2.4.3 has them; on an untaken jump fp stays, as the constraint list of 3.1.4 has it;
-- all operands of an untaken jump are read.
use Rattle.std.specs.Prelude.{ℕ, zero, suc, ◌+◌, cond, ◌||◌, ltb, eqb}
use Rattle.word.specs.Word.{◌+ₚ◌, ◌*ₚ◌}
use Rattle.outcome.specs.Outcome.{State, Outcome, goes, stuck, asked}
use Rattle.edition_machine.specs.Isa.{Source, stored, Isa, add, mul, deref, jump}
use Rattle.edition_machine.specs.OldMachine.{OldMachine, old_value, old_legal}

-- next(pc) = pc + 1 and next(fp) = fp
abbrev pub onward : State → State
onward s = record { pc = s.pc + 1; fp = s.fp }

module _ (m : OldMachine) (s : State) where
  -- A, B and C are read before anything is asked of them: STUCK 2, 3 and 4
  abbrev pub three_read : Source → Source → Source → Outcome → Outcome
  three_read a b c then = asked 2 (old_legal m s a) (asked 3 (old_legal m s b) (asked 4 (old_legal m s c) then))

  -- DEREF's m[fp + α] + β
  abbrev pub old_target : ℕ → ℕ → ℕ
  old_target α β = old_value m s (stored α) +ₚ β

  -- 2.4.3: the condition is 0 or 1; at 1 next(pc) and next(fp) are those named, at 0 pc + 1 and the same fp (3.1.4)
  abbrev pub jumped : ℕ → ℕ → ℕ → Outcome
  jumped condition dest next =
      asked 6 (eqb condition 0 || eqb condition 1)
      (goes (cond (eqb condition 1) (record { pc = dest; fp = next }) (onward s)))

  -- of a DEREF 2 is the read at fp + α, 3 the target and 4 the read at fp + γ, as document 01 numbers them, whatever
  -- operand draft 0.5.0 has them in
  abbrev pub old_performs : Isa → Outcome
  old_performs (add a b c) = three_read a b c (asked 5 (eqb (old_value m s a +ₚ old_value m s c) (old_value m s b)) (goes (onward s)))
  old_performs (mul a b c) = three_read a b c (asked 5 (eqb (old_value m s a *ₚ old_value m s c) (old_value m s b)) (goes (onward s)))
  old_performs (deref α β right) =
      asked 2 (old_legal m s (stored α))
      (asked 3 (ltb (old_target α β) m.size)
      (asked 4 (old_legal m s right)
      (asked 5 (eqb (m.cell (old_target α β)) (old_value m s right)) (goes (onward s)))))
  old_performs (jump condition dest next) =
      three_read condition dest next (jumped (old_value m s condition) (old_value m s dest) (old_value m s next))

  unfoldable pub old_step : Outcome
  old_step = asked 1 (ltb s.pc m.count) (old_performs (m.instruction s.pc))

abbrev pub old_proceed : OldMachine → Outcome → Outcome
old_proceed m (goes s) = old_step m s
old_proceed m (stuck rule) = stuck rule

-- what the machine comes to after r steps
unfoldable pub old_after : OldMachine → State → ℕ → Outcome
old_after m s zero = goes s
old_after m s (suc r) = old_proceed m (old_after m s r)
