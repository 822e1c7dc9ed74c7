-- Where a row means what Meaning has, its rules hold: each has a factor that is 0 for its kind, or a difference that
-- is.
-- Assumes nothing.
use mathlib.Core.Path.{◌≡◌, sym, ◌∙◌, ap, subst, subst₃}
use mathlib.Core.Logic.{◌⊎◌, inl, inr}
use Prim.Native.Nat.{ℕ, ◌+◌, ◌≤◌, ◌<◌, ◌^◌}
use native.Mathlib.Omega.{arith}
use lib.Dec.{T, lt→ltb}
use Rattle.word.specs.Word.{p, IsWord, ◌+ₚ◌, ◌-ₚ◌, ◌*ₚ◌}
use Rattle.word.proofs.WordLaws.{sum_word}
use Rattle.form.specs.declared.Instruction.{Instruction}
use Rattle.form.specs.declared.Form.{Form}
use Rattle.form.specs.declared.Kind.{Kind}
use Rattle.form.specs.declared.Kind.TheVariants.{Add, Mul, Deref, Jump, Extension}
use Rattle.form.proofs.Forms.{Formed, Words}
use Rattle.rows.specs.declared.Exec.{Exec}
use Rattle.rules.specs.Given.{Given, zero?}
use Rattle.run_steps.specs.Setting.{machine_in, state_of, OperandWords, ExecWords}
use Rattle.run_steps.proofs.Legal.{Forward, Does}
use Rattle.run_steps.proofs.Rules.{KindRules, NextRules, ValueRules, RowRules}
use Rattle.run_steps.proofs.Words.{off_times, on_times, holds_off, holds_equal}
use Rattle.run_steps.proofs.Operands.{column_rules}
use Rattle.run_steps.proofs.Next.{forward_rules, jump_rules}
use Rattle.run_steps.proofs.Codes.{codes}
use Rattle.run_steps.proofs.Meaning.{Points, Operands, Meaning}
use Rattle.run_steps.proofs.Read.{selected, deref_target}

off_or_equal : (f : ℕ) {x y : ℕ} → (f ≡ 0) ⊎ (x ≡ y) → T (zero? (f *ₚ (x -ₚ y)))
off_or_equal f (inl z) = holds_off _ z
off_or_equal f (inr e) = holds_equal f e

-- one kind at most asks its equation
kind_rules : {add mul deref a b c addr val left word : ℕ} → (add ≡ 0) ⊎ (b ≡ a +ₚ c) → (mul ≡ 0) ⊎ (b ≡ a *ₚ c) → (deref ≡ 0) ⊎ (addr ≡ left +ₚ word)
    → (deref ≡ 0) ⊎ (val ≡ c) → KindRules add mul deref a b c addr val left word
kind_rules e₈ e₉ e₁₀ e₁₁ = record { sums = off_or_equal _ e₈; multiplies = off_or_equal _ e₉; points = off_or_equal _ e₁₀; finds = off_or_equal _ e₁₁ }

module _ (g : Given) (x y : Exec) (i : Instruction) (f : Form) (formed : Formed i f) where
  module _ (room : x.pc + 1 < p) (o : Operands g x f) (a b c : ℕ) (wa : IsWord a) where
    on : i.jump ≡ 0 → Forward (state_of x) (state_of y) → NextRules (i.jump *ₚ a) a b c x.pc x.fp y.pc y.fp
    on z forward = forward_rules (state_of x) (state_of y) a b c _ (off_times a z) room forward

    value_rules : (k : Kind) → Words i k → Points (machine_in g) (state_of x) f x.addrB k → Does (machine_in g) (state_of x) (state_of y) f k a b c
        → ValueRules x y i a b c
    value_rules Add ws at (e, w) =
        let d = codes i Add ws in
        record { kind = kind_rules (inr (sym e)) (inl d.mul_is) (inl d.deref_is) (inl d.deref_is); next = on d.jump_is w }
    value_rules Mul ws at (e, w) =
        let d = codes i Mul ws in
        record { kind = kind_rules (inl d.add_is) (inr (sym e)) (inl d.deref_is) (inl d.deref_is); next = on d.jump_is w }
    value_rules Deref ws at (h, e, w) =
        let d = codes i Deref ws in
        let points = at ∙ deref_target g x i f formed o ws in
        let finds = o.b.looked.holds ∙ ap g.cell at ∙ e in
        record { kind = kind_rules (inl d.add_is) (inl d.mul_is) (inr points) (inr finds); next = on d.jump_is w }
    value_rules Jump ws at w =
        let d = codes i Jump ws in
        record {
          kind = kind_rules (inl d.add_is) (inl d.mul_is) (inl d.deref_is) (inl d.deref_is);
          next = jump_rules (state_of x) (state_of y) a b c _ (on_times a d.jump_is wa) room w;
        }
    value_rules (Extension op be n) ws at w =
        let d = codes i (Extension op be n) ws in
        record { kind = kind_rules (inl d.add_is) (inl d.mul_is) (inl d.deref_is) (inl d.deref_is); next = on d.jump_is w }

  pub written : g.count ≤ 2 ^ 20 → ExecWords x → OperandWords i → Meaning g x y f → RowRules g x y i
  written few w u n =
      let o = n.operands in
      let e = selected g x i f formed w u o in
      let pc_in = n.pc_in in
      let room : x.pc + 1 < p = omega arith in
      record {
        in_program = lt→ltb _ _ pc_in;
        a = column_rules g (state_of x) _ _ _ _ _ formed.flags.a (rw formed.a_is at o.a);
        b = column_rules g (state_of x) _ _ _ _ _ formed.flags.b (rw formed.b_is at o.b);
        c = column_rules g (state_of x) _ _ _ _ _ formed.flags.c (rw formed.c_is at o.c);
        values =
            subst₃ (λ (a b c : ℕ). ValueRules x y i a b c) (sym e.a) (sym e.b) (sym e.c)
            (value_rules room o _ _ _ (subst IsWord e.a (sum_word _ _)) f.kind formed.words n.points n.does);
      }
