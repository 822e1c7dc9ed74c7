-- What a legal step gives: by its kind, a group whose rows meet the rules and pull what the step pushes, or no row and
-- no push.
-- Assumes nothing.
use mathlib.Core.Path.{◌≡◌, sym, ◌∙◌, ap₂}
use mathlib.Core.Bool.{Bool, cond}
use Prim.Native.Nat.{ℕ, ◌+◌, ◌<◌}
use native.Mathlib.Nat.{zero-add}
use native.Mathlib.Omega.{arith}
use Rattle.form.specs.declared.Instruction.{Instruction}
use Rattle.form.specs.declared.Op.{Op}
use Rattle.form.specs.declared.Kind.{Kind}
use Rattle.form.specs.declared.Kind.TheVariants.{Add, Mul, Deref, Jump, Extension}
use Rattle.rows.specs.declared.Exec.{Exec}
use Rattle.rows.specs.declared.Ext.{Ext}
use Rattle.rules.specs.Given.{Given}
use Rattle.rules.specs.Extension.{ext_rules}
use Rattle.rules.specs.Satisfies.{All}
use Rattle.rules.specs.Bus.{Tuple, same_tuple, pushed, pushes, pulled, pulls, total}
use Rattle.machine.specs.Machine.{State, value}
use Rattle.tables.specs.Rows.{form_at, exec_row_of}
use Rattle.tables.specs.Groups.{length_of, length_at, step_row_by, step_row, group_row}
use Rattle.run_steps.specs.Setting.{machine_in, state_of, Fit, ExtensionHolds, MemoryHolds, PushesBy, Pushes}
use Rattle.run_groups.proofs.Meaning.{RowWords}
use Rattle.run_groups.proofs.Tabled.{Called, row_words, inside_rules, seam_rules, start_first, pulls_first, pulls_later, pulled_first}
use Rattle.rules.proofs.Totals.{counts_none, total_stays}

-- how often a row pushes or pulls a tuple
abbrev pub counted : Tuple → Tuple → ℕ → ℕ
counted σ τ n = cond (same_tuple τ σ) n 0

abbrev pub pulled_by : Tuple → Ext → ℕ
pulled_by σ y = counted σ (pulled y) (pulls y)

abbrev pub pushed_by : Given → Tuple → Exec → ℕ
pushed_by g σ x = counted σ (pushed (g.instruction x.pc) x) (pushes (g.instruction x.pc))

-- an extension's group is one of a legal call
abbrev CallsBy : Given → State → Kind → Type 0
CallsBy g s Add = Unit
CallsBy g s Mul = Unit
CallsBy g s Deref = Unit
CallsBy g s Jump = Unit
CallsBy g s (Extension op be n) =
    let m = machine_in g in
    let f = form_at m s in
    Called g op be n (value m s f.a) (value m s f.b) (value m s f.c)

abbrev pub Calls : Given → State → Type 0
Calls g s = CallsBy g s (form_at (machine_in g) s).kind

module _ (g : Given) (fit : Fit g) (s : State) (i : Instruction) (x : Exec) where
  calls_by : (k : Kind)
      → (let m = machine_in g in let f = form_at m s in ExtensionHolds m k (value m s f.a) (value m s f.b) (value m s f.c))
      → PushesBy (machine_in g) (form_at (machine_in g) s) i x k → CallsBy g s k
  calls_by Add h o = tt
  calls_by Mul h o = tt
  calls_by Deref h o = tt
  calls_by Jump h o = tt
  calls_by (Extension op be n) (exist, same) o =
      record {
        some = o.some;
        not_many = o.most;
        small_memory = fit.small;
        words = fit.cells;
        legal = record { exist = exist; same = same };
      }

pub calls : (g : Given) → Fit g → (s : State) → MemoryHolds (machine_in g) s → Pushes g (exec_row_of (machine_in g) s) → Calls g s
unfolding exec_row_of
calls g fit s h o =
    let m = machine_in g in
    calls_by g fit s (g.instruction s.pc) (exec_row_of m s) (form_at m s).kind h o

-- only an extension fills rows
only_extension : (P : Kind → Type 0) → ((op : Op) (be : Bool) (n : ℕ) → P (Extension op be n)) → (k : Kind) → 0 < length_of k → P k
only_extension P e Add h = absurd (omega arith)
only_extension P e Mul h = absurd (omega arith)
only_extension P e Deref h = absurd (omega arith)
only_extension P e Jump h = absurd (omega arith)
only_extension P e (Extension op be n) h = e op be n

module _ (g : Given) (s : State) where
  pub step_starts : 0 < length_at (machine_in g) s → (step_row (machine_in g) s 0).start ≡ 1
  step_starts =
      only_extension (λ (k : Kind). (step_row_by (machine_in g) s 0 k).start ≡ 1) (λ op be n. start_first g.cell op be n _ _ _)
      (form_at (machine_in g) s).kind

  module _ (c : Calls g s) (j : ℕ) where
    pub step_words : j < length_at (machine_in g) s → RowWords (step_row (machine_in g) s j)
    step_words l =
        only_extension (λ (k : Kind). CallsBy g s k → j < length_of k → RowWords (step_row_by (machine_in g) s j k))
        (λ op be n d. row_words d j) (form_at (machine_in g) s).kind (omega arith) c l

    pub step_inside : j + 1 < length_at (machine_in g) s → All (ext_rules g (step_row (machine_in g) s j) (step_row (machine_in g) s (j + 1)))
    step_inside l =
        only_extension
        (λ (k : Kind).
        CallsBy g s k → j + 1 < length_of k → All (ext_rules g (step_row_by (machine_in g) s j k) (step_row_by (machine_in g) s (j + 1) k)))
        (λ op be n d. inside_rules d j) (form_at (machine_in g) s).kind (omega arith) c l

    pub step_seam : j + 1 ≡ length_at (machine_in g) s → (y : Ext) → y.start ≡ 1 → All (ext_rules g (step_row (machine_in g) s j) y)
    step_seam e y one =
        only_extension (λ (k : Kind). CallsBy g s k → j + 1 ≡ length_of k → All (ext_rules g (step_row_by (machine_in g) s j k) y))
        (λ op be n d e'. seam_rules d j e' y one) (form_at (machine_in g) s).kind (omega arith) c e

-- a group pulls, on its first row, the one call that its step pushes
module _ (g : Given) (σ : Tuple) (i : Instruction) (x : Exec) where
  balance_by : (k : Kind) → PushesBy (machine_in g) (form_at (machine_in g) (state_of x)) i x k
      → total (λ j. pulled_by σ (step_row_by (machine_in g) (state_of x) j k)) (length_of k) ≡ counted σ (pushed i x) (pushes i)
  balance_by Add o = sym (counts_none (same_tuple (pushed i x) σ) (pushes i) o)
  balance_by Mul o = sym (counts_none (same_tuple (pushed i x) σ) (pushes i) o)
  balance_by Deref o = sym (counts_none (same_tuple (pushed i x) σ) (pushes i) o)
  balance_by Jump o = sym (counts_none (same_tuple (pushed i x) σ) (pushes i) o)
  balance_by (Extension op be n) o =
      let m = machine_in g in
      let f = form_at m (state_of x) in
      let a = value m (state_of x) f.a in
      let b = value m (state_of x) f.b in
      let c = value m (state_of x) f.c in
      total_stays (λ j. pulled_by σ (group_row g.cell op be n a b c j)) 1 n o.some
      (λ j h _. counts_none (same_tuple (pulled (group_row g.cell op be n a b c j)) σ) _ (pulls_later g.cell op be n a b c j h))
      ∙ zero-add _
      ∙ ap₂ (counted σ) (pulled_first g.cell op be n a b c o.most ∙ sym o.tuple) (pulls_first g.cell op be n a b c ∙ sym o.once)

pub step_balance : (g : Given) (σ : Tuple) (s : State) → Pushes g (exec_row_of (machine_in g) s)
    → total (λ j. pulled_by σ (step_row (machine_in g) s j)) (length_at (machine_in g) s) ≡ pushed_by g σ (exec_row_of (machine_in g) s)
unfolding exec_row_of
step_balance g σ s o =
    let m = machine_in g in
    balance_by g σ (g.instruction s.pc) (exec_row_of m s) (form_at m s).kind o
