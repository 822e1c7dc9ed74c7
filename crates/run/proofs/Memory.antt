-- A tuple that an execution row pushes is pulled by a row of the extension table, so the memory holds what an extension
-- step asks.
-- Assumes nothing.
use mathlib.Core.Path.{◌≡◌, ◌∙◌, ap, subst₃}
use mathlib.Core.Bool.{Bool, cond}
use Prim.Native.Nat.{ℕ, ◌≤◌, ◌<◌}
use native.Mathlib.Omega.{arith}
use Rattle.form.specs.declared.Form.{Form}
use Rattle.form.specs.declared.Op.{Op}
use Rattle.form.specs.declared.Kind.{Kind}
use Rattle.form.specs.declared.Kind.TheVariants.{Add, Mul, Deref, Jump, Extension}
use Rattle.machine.specs.Machine.{value}
use Rattle.tables.specs.Rows.{form_at}
use Rattle.rules.specs.Given.{Given, Tables}
use Rattle.rules.specs.Bus.{Tuple, same_tuple, pushed, pushes, pulled, pulls, total, pushed_to, pulled_to, instruction_of}
use Rattle.rules.proofs.Totals.{at_least, counts, total_cases}
use Rattle.rules.proofs.Tuples.{same_self, same_tuple_lem}
use Rattle.run_steps.specs.Setting.{machine_in, state_of, ExtensionHolds, MemoryHolds, OneCall, PushesBy, Pushes}
use Rattle.run_groups.proofs.Lengths.{ExtTable}
use Rattle.run_groups.proofs.Legal.{Legal}
use Rattle.run_groups.proofs.Pulled.{pulled_legal}

module _ (g : Given) (t : Tables) (table : ExtTable g t.ext_height t.ext)
    (bus : (σ : Tuple) → pushed_to g t σ t.height ≡ pulled_to t σ t.ext_height)
    (r : ℕ) (below : r < t.height) where
  -- the row's own tuple is pushed, so it is pulled
  pushed_once : pushes (instruction_of g t r) ≡ 1 → 1 ≤ pulled_to t (pushed (instruction_of g t r) (t.exec r)) t.ext_height
  pushed_once once =
      let σ = pushed (instruction_of g t r) (t.exec r) in
      let term = at_least (λ k. cond (same_tuple (pushed (instruction_of g t k) (t.exec k)) σ) (pushes (instruction_of g t k)) 0) t.height r below in
      omega (arith, bus σ, once, rw (same_self σ) at term)

  pulled_by_lem : (op : Op) (be : Bool) (n : ℕ) (f : Form) → OneCall (machine_in g) f (instruction_of g t r) (t.exec r) op be n
      → (let m = machine_in g in let s = state_of (t.exec r) in Legal g op be n (value m s f.a) (value m s f.b) (value m s f.c))
  pulled_by_lem op be n f c =
      let σ = pushed (instruction_of g t r) (t.exec r) in
      total_cases (λ j. cond (same_tuple (pulled (t.ext j)) σ) (pulls (t.ext j)) 0) t.ext_height _
      (λ none. absurd (omega (arith, pushed_once c.once)))
      (λ k h some.
      let (same, counted) = counts (same_tuple (pulled (t.ext k)) σ) (pulls (t.ext k)) some in
      let e = same_tuple_lem (pulled (t.ext k)) σ same ∙ c.tuple in
      subst₃ (Legal g op be n) (ap (λ (τ : Tuple). τ.left) e) (ap (λ (τ : Tuple). τ.right) e) (ap (λ (τ : Tuple). τ.out) e)
      (pulled_legal table op be n k h (ap (λ (τ : Tuple). τ.aux) e) counted))

  holds_by : (f : Form) (kind : Kind) → PushesBy (machine_in g) f (instruction_of g t r) (t.exec r) kind
      → (let m = machine_in g in let s = state_of (t.exec r) in ExtensionHolds m kind (value m s f.a) (value m s f.b) (value m s f.c))
  holds_by f Add c = tt
  holds_by f Mul c = tt
  holds_by f Deref c = tt
  holds_by f Jump c = tt
  holds_by f (Extension op be n) c = let l = pulled_by_lem op be n f c in (l.exist, l.same)

  pub memory_holds : Pushes g (t.exec r) → MemoryHolds (machine_in g) (state_of (t.exec r))
  memory_holds c =
      let f = form_at (machine_in g) (state_of (t.exec r)) in
      holds_by f f.kind c
