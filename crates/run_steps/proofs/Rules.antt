-- The sixteen rules of a row, sorted by what they speak of: its pc, an operand's columns, its kind, the next row.
-- They are the same rules, over numbers in place of polynomials. Assumes nothing.
use Prim.Native.Nat.{ℕ}
use lib.Dec.{T, ltb}
use Rattle.word.specs.Word.{◌+ₚ◌, ◌-ₚ◌, ◌*ₚ◌}
use Rattle.word.proofs.Tests.{◌also◌}
use Rattle.form.specs.declared.Instruction.{Instruction}
use Rattle.rows.specs.declared.Exec.{Exec}
use Rattle.rules.specs.Given.{Given, zero?, looks_up}
use Rattle.rules.specs.Execution.{νA, νB, νC, ADD, DEREF, exec_rules}
use Rattle.rules.specs.Satisfies.{All}

-- 2 and 5, 3 and 6, 4 and 7
pub record OperandRules (g : Given) (flag frame word fp addr val : ℕ) : Type 0 where
  pub looks_up : T (looks_up g addr val)
  pub at_cell : T (zero? ((1 -ₚ flag -ₚ frame) *ₚ (addr -ₚ (fp +ₚ word))))

-- 8 to 11
pub record KindRules (add mul deref a b c addr val left word : ℕ) : Type 0 where
  pub sums : T (zero? (add *ₚ (b -ₚ (a +ₚ c))))
  pub multiplies : T (zero? (mul *ₚ (b -ₚ a *ₚ c)))
  pub points : T (zero? (deref *ₚ (addr -ₚ (left +ₚ word))))
  pub finds : T (zero? (deref *ₚ (val -ₚ c)))

-- 12 to 16
pub record NextRules (j a b c pc fp pc' fp' : ℕ) : Type 0 where
  pub one : T (zero? (j *ₚ (1 -ₚ a)))
  pub lands : T (zero? (j *ₚ (pc' -ₚ b)))
  pub enters : T (zero? (j *ₚ (fp' -ₚ c)))
  pub goes_on : T (zero? ((1 -ₚ j) *ₚ (pc' -ₚ (pc +ₚ 1))))
  pub keeps : T (zero? ((1 -ₚ j) *ₚ (fp' -ₚ fp)))

-- 8 to 16, over the values of the operands
pub record ValueRules (x y : Exec) (i : Instruction) (a b c : ℕ) : Type 0 where
  pub kind : KindRules (ADD i) i.mul (DEREF i) a b c x.addrB x.valueB x.valueA i.b
  pub next : NextRules (i.jump *ₚ a) a b c x.pc x.fp y.pc y.fp

pub record RowRules (g : Given) (x y : Exec) (i : Instruction) : Type 0 where
  pub in_program : T (ltb x.pc g.count)
  pub a : OperandRules g i.fa i.fpab i.a x.fp x.addrA x.valueA
  pub b : OperandRules g i.fb i.fpab i.b x.fp x.addrB x.valueB
  pub c : OperandRules g i.fc i.fpc i.c x.fp x.addrC x.valueC
  pub values : ValueRules x y i (νA i x) (νB i x) (νC i x)

module _ (g : Given) (x y : Exec) (i : Instruction) where
  pub sorted : All (exec_rules g x y i) → RowRules g x y i
  unfolding exec_rules
  sorted (r₁, (r₂, (r₃, (r₄, (r₅, (r₆, (r₇, (r₈, (r₉, (r₁₀, (r₁₁, (r₁₂, (r₁₃, (r₁₄, (r₁₅, (r₁₆, end)))))))))))))))) =
      record {
        in_program = r₁;
        a = record { looks_up = r₂; at_cell = r₅ };
        b = record { looks_up = r₃; at_cell = r₆ };
        c = record { looks_up = r₄; at_cell = r₇ };
        values =
            record {
              kind = record { sums = r₈; multiplies = r₉; points = r₁₀; finds = r₁₁ };
              next = record { one = r₁₂; lands = r₁₃; enters = r₁₄; goes_on = r₁₅; keeps = r₁₆ };
            };
      }

  pub numbered : RowRules g x y i → All (exec_rules g x y i)
  unfolding exec_rules
  numbered r =
      let k = r.values.kind in
      let n = r.values.next in
      r.in_program also r.a.looks_up also r.b.looks_up also r.c.looks_up also r.a.at_cell also r.b.at_cell also r.c.at_cell
      also k.sums also k.multiplies also k.points also k.finds
      also n.one also n.lands also n.enters also n.goes_on also n.keeps also tt
