-- A refusal that says what stood there shows it by a lookup of its row.
use mathlib.Core.Path.{◌≡◌, refl, sym, ap, ◌∙◌, subst}
use mathlib.Core.Logic.{◌⊎◌, inl, inr}
use mathlib.Core.List.{List, [], ◌∷◌}
use Prim.Native.Nat.{ℕ, ◌+◌, ◌≤◌}
use native.Mathlib.Omega.{arith}
use lib.ListN.{length}
use Rattle.form.specs.declared.Instruction.{Instruction}
use Rattle.rows.specs.declared.Exec.{Exec}
use Rattle.rows.specs.declared.Ext.{Ext}
use Rattle.answer.specs.Answers.{Exec as ExecRefused, Extension}
use Rattle.rules.specs.Given.{Given}
use Rattle.rules.specs.Execution.{exec_rules}
use Rattle.rules.specs.Extension.{ext_rules}
use Rattle.rules.specs.Lookups.{Lookup, exec_lookups, ext_lookups}
use Rattle.rules.specs.Sizes.{Parts, given_of, tables_of}
use Rattle.judge_spec.specs.Judged.{judge_of}
use Rattle.judge_spec.specs.Refusal.{Differs, Silent, OutOfRange, Stood, Says}
use Rattle.judge_spec.specs.Shown.{Among, Shows, Told, LookupsOf}
use Rattle.judge_spec.proofs.Standing.{exec_covers, ext_covers}
use Rattle.judge_spec.proofs.Exactly.{says_exactly}

shown : (g : Given) (ls : List Lookup) (n : ℕ) {x y : ℕ} → Stood g ls n x y → (Silent x y → ⊥) → Shows g ls n x y
shown g [] n s spoken = absurd (spoken s)
shown g (l ∷ ls) n (inl (same, inl d)) spoken = record { lookup = l; among = inl refl; under = same; differs = d }
shown g (l ∷ ls) n (inl (same, inr o)) spoken = absurd (spoken o.silent)
shown g (l ∷ ls) n (inr (other, s)) spoken =
    let rest = shown g ls n s spoken in
    record { lookup = rest.lookup; among = inr rest.among; under = rest.under; differs = rest.differs }

-- no two lookups of a list have one number
abbrev Others : ℕ → List Lookup → Type 0
Others n [] = Unit
Others n (l ∷ ls) = (l.number ≡ n → ⊥) × Others n ls

abbrev Apart : List Lookup → Type 0
Apart [] = Unit
Apart (l ∷ ls) = Others l.number ls × Apart ls

other : (n : ℕ) (ls : List Lookup) (l : Lookup) → Others n ls → Among l ls → l.number ≡ n → ⊥
other n (k ∷ ks) l o (inl e) = subst (λ m. m.number ≡ n → ⊥) (sym e) o.0
other n (k ∷ ks) l o (inr a) = other n ks l o.1 a
other n [] l o a = absurd a

in_range : (g : Given) (k : Lookup) {x y : ℕ} → k.addr + length k.column ≤ g.size
    → Differs g k.addr k.column x y ⊎ OutOfRange g k.addr k.column x y → Differs g k.addr k.column x y
in_range g k h (inl d) = d
in_range g k h (inr o) = absurd (omega (arith, o.past))

told : (g : Given) (ls : List Lookup) (n x y : ℕ) → Apart ls → Stood g ls n x y → Told g ls n x y
told g [] n x y apart s l a under range = absurd a
told g (k ∷ ks) n x y apart (inl (same, s)) l (inl e) under range =
    subst (λ m. Differs g m.addr m.column x y) (sym e)
    (in_range g k (subst (λ m. m.addr + length m.column ≤ g.size) e range) s)
told g (k ∷ ks) n x y apart (inl (same, s)) l (inr a) under range = absurd (other k.number ks l apart.0 a (under ∙ sym same))
told g (k ∷ ks) n x y apart (inr (not, s)) l (inl e) under range = absurd (not (ap (λ (m : Lookup). m.number) (sym e) ∙ under))
told g (k ∷ ks) n x y apart (inr (not, s)) l (inr a) under range = told g ks n x y apart.1 s l a under range

exec_apart : (x : Exec) → Apart (exec_lookups x)
exec_apart x = omega arith

ext_apart : (x : Ext) → Apart (ext_lookups x)
ext_apart x = omega arith

-- the rules that look cells up are 2 to 4, and 18 to 21
pub exec_lookups_lem : (g : Given) (x y : Exec) (i : Instruction) → LookupsOf g (exec_rules g x y i) (exec_lookups x) (2 ∷ 3 ∷ 4 ∷ [])
exec_lookups_lem g x y i = record { numbered = refl; covers = exec_covers g x y i }

pub ext_lookups_lem : (g : Given) (x y : Ext) → LookupsOf g (ext_rules g x y) (ext_lookups x) (18 ∷ 19 ∷ 20 ∷ 21 ∷ [])
ext_lookups_lem g x y = record { numbered = refl; covers = ext_covers g x y }

module _ (q : Parts) (r n expected found : ℕ) where
  pub exec_shown : judge_of q ≡ ExecRefused r n expected found → (Silent expected found → ⊥)
      → Shows (given_of q) (exec_lookups ((tables_of q).exec r)) n expected found
  unfolding Says
  exec_shown e = shown (given_of q) (exec_lookups ((tables_of q).exec r)) n ((says_exactly q (ExecRefused r n expected found)).0 e).stood

  pub ext_shown : judge_of q ≡ Extension r n expected found → (Silent expected found → ⊥)
      → Shows (given_of q) (ext_lookups ((tables_of q).ext r)) n expected found
  unfolding Says
  ext_shown e = shown (given_of q) (ext_lookups ((tables_of q).ext r)) n ((says_exactly q (Extension r n expected found)).0 e).stood

  pub exec_told : judge_of q ≡ ExecRefused r n expected found → Told (given_of q) (exec_lookups ((tables_of q).exec r)) n expected found
  unfolding Says
  exec_told e =
      told (given_of q) (exec_lookups ((tables_of q).exec r)) n expected found (exec_apart ((tables_of q).exec r)) ((says_exactly q (ExecRefused r n expected found)).0 e).stood

  pub ext_told : judge_of q ≡ Extension r n expected found → Told (given_of q) (ext_lookups ((tables_of q).ext r)) n expected found
  unfolding Says
  ext_told e =
      told (given_of q) (ext_lookups ((tables_of q).ext r)) n expected found (ext_apart ((tables_of q).ext r)) ((says_exactly q (Extension r n expected found)).0 e).stood
