-- The rules that hold on a row of a well-formed instruction say what Meaning has: operand by operand, and then by kind,
-- since one of ADD, MUL, DEREF, JUMP and IS-PRECOMPILE is 1.
-- Assumes nothing.
use mathlib.Core.Path.{◌≡◌, sym, ◌∙◌, ap, ap₂, subst₃}
use Prim.Native.Nat.{ℕ, ◌+◌, ◌≤◌, ◌<◌, ◌^◌}
use native.Mathlib.Omega.{arith}
use lib.Dec.{ltb→lt}
use Rattle.word.specs.Word.{p, IsWord, ◌+ₚ◌}
use Rattle.word.proofs.WordLaws.{sum_word, product_word}
use Rattle.form.specs.declared.Instruction.{Instruction}
use Rattle.form.specs.declared.Form.{Form}
use Rattle.form.specs.declared.Operand.{Operand}
use Rattle.form.specs.declared.Kind.{Kind}
use Rattle.form.specs.declared.Kind.TheVariants.{Add, Mul, Deref, Jump, Extension}
use Rattle.form.proofs.Forms.{Formed, Words}
use Rattle.rows.specs.declared.Exec.{Exec}
use Rattle.rules.specs.Given.{Given}
use Rattle.machine.specs.Step.{target}
use Rattle.run_steps.specs.Setting.{machine_in, state_of, OperandWords, ExecWords, Selected}
use Rattle.run_steps.proofs.Legal.{Forward, Does}
use Rattle.run_steps.proofs.Rules.{ValueRules, RowRules}
use Rattle.run_steps.proofs.Words.{says_equal, off_times, on_times}
use Rattle.run_steps.proofs.Operands.{columns, selects, cell_value}
use Rattle.run_steps.proofs.Next.{read_forward, read_jump}
use Rattle.run_steps.proofs.Codes.{codes}
use Rattle.run_steps.proofs.Meaning.{Points, Operands, Meaning}

module _ (g : Given) (x : Exec) (i : Instruction) (f : Form) (formed : Formed i f) where
  -- rules 2 to 7
  pub operands_read : (y : Exec) → ExecWords x → RowRules g x y i → Operands g x f
  operands_read y w r =
      record {
        a = rw formed.a_is (columns g (state_of x) _ _ _ _ _ formed.flags.a w.addrA r.a);
        b = rw formed.b_is (columns g (state_of x) _ _ _ _ _ formed.flags.b w.addrB r.b);
        c = rw formed.c_is (columns g (state_of x) _ _ _ _ _ formed.flags.c w.addrC r.c);
      }

  -- the three polynomials of 3.3.3
  pub selected : ExecWords x → OperandWords i → Operands g x f → Selected g x i f
  selected w o k =
      record {
        a = rw formed.a_is (selects g (state_of x) _ x.addrA _ _ _ formed.flags.a o.a w.valueA (rw formed.a_is at k.a));
        b = rw formed.b_is (selects g (state_of x) _ x.addrB _ _ _ formed.flags.b o.b w.valueB (rw formed.b_is at k.b));
        c = rw formed.c_is (selects g (state_of x) _ x.addrC _ _ _ formed.flags.c o.c w.valueC (rw formed.c_is at k.c));
      }

  -- DEREF reads A's cell
  pub deref_target : Operands g x f → Words i Deref → target (machine_in g) (state_of x) f ≡ x.valueA +ₚ i.b
  deref_target k (o, plain, fa, fb) =
      ap₂ ◌+ₚ◌
      (rw formed.a_is (cell_value g (state_of x) i.a x.addrA x.valueA fa plain.fpab_is (rw formed.a_is at k.a)))
      (ap (λ (o : Operand). o.word) formed.b_is)

  module _ (y : Exec) (w : ExecWords x) (v : ExecWords y) where
    -- rules 8 to 16, by kind
    module _ (room : x.pc + 1 < p) (o : Operands g x f) (a b c : ℕ) (wa : IsWord a) (wb : IsWord b) (wc : IsWord c) (r : ValueRules x y i a b c) where
      on : i.jump ≡ 0 → Forward (state_of x) (state_of y)
      on z = read_forward _ _ a b c _ (off_times a z) room w.fp v.pc v.fp r.next

      points_at : Words i Deref → x.addrB ≡ target (machine_in g) (state_of x) f
      points_at ws =
          says_equal (codes i Deref ws).deref_is w.addrB (sum_word _ _) r.kind.points ∙ sym (deref_target o ws)

      read_points : (k : Kind) → Words i k → Points (machine_in g) (state_of x) f x.addrB k
      read_points Add ws = tt
      read_points Mul ws = tt
      read_points Deref ws = points_at ws
      read_points Jump ws = tt
      read_points (Extension op be n) ws = tt

      read_does : (k : Kind) → Words i k → Does (machine_in g) (state_of x) (state_of y) f k a b c
      read_does Add ws =
          let d = codes i Add ws in
          (sym (says_equal d.add_is wb (sum_word _ _) r.kind.sums), on d.jump_is)
      read_does Mul ws =
          let d = codes i Mul ws in
          (sym (says_equal d.mul_is wb (product_word _ _) r.kind.multiplies), on d.jump_is)
      read_does Deref ws =
          let d = codes i Deref ws in
          let e = points_at ws in
          let l = o.b.looked in
          (rw e at l.exists, ap g.cell (sym e) ∙ sym l.holds ∙ says_equal d.deref_is w.valueB wc r.kind.finds, on d.jump_is)
      read_does Jump ws =
          let d = codes i Jump ws in
          read_jump _ _ a b c _ (on_times a d.jump_is wa) room w.fp v.pc v.fp wa wb wc r.next
      read_does (Extension op be n) ws = on (codes i (Extension op be n) ws).jump_is

    -- all sixteen
    pub read : g.count ≤ 2 ^ 20 → OperandWords i → RowRules g x y i → Meaning g x y f
    read few u r =
        let o = operands_read y w r in
        let e = selected w u o in
        let values =
        subst₃ (λ (a b c : ℕ). IsWord a × IsWord b × IsWord c × ValueRules x y i a b c) e.a e.b e.c
        (sum_word _ _, sum_word _ _, sum_word _ _, r.values)
        in
        let pc_in : x.pc < g.count = ltb→lt _ _ r.in_program in
        let room : x.pc + 1 < p = omega arith in
        record {
          pc_in = pc_in;
          operands = o;
          points = read_points room o _ _ _ values.0 values.1 values.2 values.3 f.kind formed.words;
          does = read_does room o _ _ _ values.0 values.1 values.2 values.3 f.kind formed.words;
        }
