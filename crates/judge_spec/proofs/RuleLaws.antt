-- The laws of `failing`: by the list, the rule named is the first that fails, and 0 is the answer exactly where all
-- hold.
use mathlib.Core.Path.{◌≡◌, refl, ap, ◌∙◌, subst}
use mathlib.Core.Bool.{Bool, true, false, cond}
use mathlib.Core.List.{List, [], ◌∷◌, ◌++◌}
use Prim.Native.Nat.{ℕ, ◌≤◌}
use native.Mathlib.Omega.{arith}
use lib.Dec.{T}
use Rattle.form.specs.declared.Instruction.{Instruction}
use Rattle.rows.specs.declared.Exec.{Exec}
use Rattle.rows.specs.declared.Ext.{Ext}
use Rattle.rules.specs.Given.{Given, Rule, rule}
use Rattle.rules.specs.Execution.{exec_rules}
use Rattle.rules.specs.Extension.{ext_rules}
use Rattle.rules.specs.Satisfies.{All}
use Rattle.judge_spec.specs.First.{failing}
use Rattle.judge_spec.specs.Refusal.{FirstFailing}

-- no rule of a list has number 0
abbrev pub Numbered : List Rule → Type 0
Numbered [] = Unit
Numbered (r ∷ rs) = (1 ≤ r.number) × Numbered rs

pub exec_numbered : (g : Given) (x y : Exec) (i : Instruction) → Numbered (exec_rules g x y i)
unfolding exec_rules
exec_numbered g x y i = omega arith

pub ext_numbered : (g : Given) (x y : Ext) → Numbered (ext_rules g x y)
unfolding ext_rules
ext_numbered g x y = omega arith

-- a list's first rule holds, and the rest gives 0
head_holds : (b : Bool) (rest n : ℕ) → T b → cond b rest n ≡ rest
head_holds true rest n t = refl
head_holds false rest n t = absurd t

pub holds_failing : (rs : List Rule) → All rs → failing rs ≡ 0
holds_failing [] h = refl
holds_failing (r ∷ rs) h = head_holds r.holds (failing rs) r.number h.0 ∙ holds_failing rs h.1

none_fails : (b : Bool) (rest n : ℕ) (Rest : Type 0) → 1 ≤ n → (rest ≡ 0 → Rest) → cond b rest n ≡ 0 → T b × Rest
none_fails true rest n Rest h f e = (tt, f e)
none_fails false rest n Rest h f e = absurd (omega arith)

pub failing_holds : (rs : List Rule) → Numbered rs → failing rs ≡ 0 → All rs
failing_holds [] n e = tt
failing_holds (r ∷ rs) n e = none_fails r.holds (failing rs) r.number (All rs) n.0 (failing_holds rs n.1) e

head_fails : (n : ℕ) (b : Bool) (rs : List Rule)
    → ((failing rs ≡ 0 → ⊥) → FirstFailing rs (failing rs))
    → (failing (rule n b ∷ rs) ≡ 0 → ⊥) → FirstFailing (rule n b ∷ rs) (failing (rule n b ∷ rs))
head_fails n true rs later h =
    let f = later h in
    record { before = rule n true ∷ f.before; after = f.after; split = ap (λ (l : List Rule). rule n true ∷ l) f.split; hold = (tt, f.hold) }
head_fails n false rs later h = record { before = []; after = rs; split = refl; hold = tt }

-- a refusal names a rule of the list that fails, and those before it hold
pub failing_first : (rs : List Rule) → (failing rs ≡ 0 → ⊥) → FirstFailing rs (failing rs)
failing_first [] h = absurd (h refl)
failing_first (r ∷ rs) h = head_fails r.number r.holds rs (failing_first rs) h

-- and only one such number can be named
fails_at : (before after : List Rule) (n : ℕ) → All before → failing (before ++ (rule n false ∷ after)) ≡ n
fails_at [] after n h = refl
fails_at (r ∷ rs) after n h = head_holds r.holds (failing (rs ++ (rule n false ∷ after))) r.number h.0 ∙ fails_at rs after n h.1

numbered_at : (before after : List Rule) (n : ℕ) → Numbered (before ++ (rule n false ∷ after)) → 1 ≤ n
numbered_at [] after n h = h.0
numbered_at (r ∷ rs) after n h = numbered_at rs after n h.1

pub first_failing : (rs : List Rule) (n : ℕ) → FirstFailing rs n → failing rs ≡ n
first_failing rs n f = ap failing f.split ∙ fails_at f.before f.after n f.hold

pub first_nonzero : (rs : List Rule) (n : ℕ) → Numbered rs → FirstFailing rs n → failing rs ≡ 0 → ⊥
first_nonzero rs n numbered f e =
    omega (arith, first_failing rs n f, numbered_at f.before f.after n (subst Numbered f.split numbered))
