-- A step is stuck for a reason exactly where it is the first, in STUCK's order, that fails; and legal exactly where
-- none does.
-- Assumes nothing.
use mathlib.Core.Path.{◌≡◌, refl, sym, ap, ◌∙◌, subst}
use mathlib.Core.Logic.{◌↔◌}
use mathlib.Core.Bool.{Bool, true, false, ◌&&◌, ◌||◌}
use mathlib.Core.List.{List, [], ◌∷◌, ◌++◌}
use Prim.Native.Nat.{ℕ, ◌+◌}
use native.Mathlib.Omega.{arith}
use lib.Dec.{T, ltb, eqb}
use Rattle.form.specs.declared.Form.{Form}
use Rattle.form.specs.declared.Kind.{Kind}
use Rattle.form.specs.declared.Kind.TheVariants.{Add, Mul, Deref, Jump, Extension}
use Rattle.machine.specs.Machine.{Machine, State, value, legal}
use Rattle.machine.specs.Step.{Outcome, goes, stuck, asked, landing, target_legal, performed, step}
use Rattle.rules.specs.Given.{Rule, rule}
use Rattle.rules.specs.Satisfies.{All}
use Rattle.tables.specs.Rows.{form_at}
use Rattle.judge_spec.specs.Refusal.{FirstFailing}
use Rattle.run.specs.Tabler.{kind_reasons, reasons}

-- a list of what is asked, and then an outcome
abbrev asks : List Rule → Outcome → Outcome
asks [] o = o
asks (r ∷ rs) o = asked r.number r.holds (asks rs o)

never : {A : Type 0} {t : State} {k : ℕ} → goes t ≡ stuck k → A
never e = let z : ◌≡◌ {A = ℕ} 0 1 = cc in absurd (omega arith)

module _ (t : State) where
  stuck_head : (n : ℕ) (b : Bool) (rs : List Rule) {k : ℕ} → (asks rs (goes t) ≡ stuck k → FirstFailing rs k)
      → asks (rule n b ∷ rs) (goes t) ≡ stuck k → FirstFailing (rule n b ∷ rs) k
  stuck_head n true rs later e =
      let f = later e in
      record { before = rule n true ∷ f.before; after = f.after; split = ap (λ (l : List Rule). rule n true ∷ l) f.split; hold = (tt, f.hold) }
  stuck_head n false rs {k} later e =
      let same : n ≡ k = cc in
      record { before = []; after = rs; split = ap (λ (j : ℕ). rule j false ∷ rs) same; hold = tt }

  stuck_first : (rs : List Rule) {k : ℕ} → asks rs (goes t) ≡ stuck k → FirstFailing rs k
  stuck_first [] e = never e
  stuck_first (r ∷ rs) e = stuck_head r.number r.holds rs (stuck_first rs) e

  goes_head : (n : ℕ) (b : Bool) (rs : List Rule) {s : State} → (asks rs (goes t) ≡ goes s → All rs) → asks (rule n b ∷ rs) (goes t) ≡ goes s
      → All (rule n b ∷ rs)
  goes_head n true rs later e = (tt, later e)
  goes_head n false rs later e = let z : ◌≡◌ {A = ℕ} 0 1 = cc in absurd (omega arith)

  goes_all : (rs : List Rule) {s : State} → asks rs (goes t) ≡ goes s → All rs
  goes_all [] e = tt
  goes_all (r ∷ rs) e = goes_head r.number r.holds rs (goes_all rs) e

passes : (n : ℕ) (b : Bool) {o : Outcome} → T b → asked n b o ≡ o
passes n true t = refl
passes n false t = absurd t

fails_at : (before after : List Rule) (k : ℕ) (o : Outcome) → All before → asks (before ++ (rule k false ∷ after)) o ≡ stuck k
fails_at [] after k o h = refl
fails_at (r ∷ rs) after k o h = passes r.number r.holds h.0 ∙ fails_at rs after k o h.1

all_goes : (rs : List Rule) (o : Outcome) → All rs → asks rs o ≡ o
all_goes [] o h = refl
all_goes (r ∷ rs) o h = passes r.number r.holds h.0 ∙ all_goes rs o h.1

module _ (m : Machine) (s : State) where
  lands : (b : Bool) (taken untaken : State) → (t : State) × (landing b taken untaken ≡ goes t)
  lands true taken untaken = (taken, refl)
  lands false taken untaken = (untaken, refl)

  performed_asks : (f : Form) (kind : Kind) (a b c : ℕ) → (t : State) × (performed m s f kind a b c ≡ asks (kind_reasons m s f kind a b c) (goes t))
  performed_asks f Add a b c = (record { pc = s.pc + 1; fp = s.fp }, refl)
  performed_asks f Mul a b c = (record { pc = s.pc + 1; fp = s.fp }, refl)
  performed_asks f Deref a b c = (record { pc = s.pc + 1; fp = s.fp }, refl)
  performed_asks f Jump a b c =
      let l = lands (eqb a 1) (record { pc = b; fp = c }) (record { pc = s.pc + 1; fp = s.fp }) in
      (l.0, ap (asked 6 (eqb a 0 || eqb a 1)) l.1)
  performed_asks f (Extension op be n) a b c = (record { pc = s.pc + 1; fp = s.fp }, refl)

  step_asks : (t : State) × (step m s ≡ asks (reasons m s) (goes t))
  unfolding step
  step_asks =
      let f = form_at m s in
      let p = performed_asks f f.kind (value m s f.a) (value m s f.b) (value m s f.c) in (
        p.0,
        ap
            (λ (o : Outcome).
            asked 1 (ltb s.pc m.count)
            (asked 2 (legal m s f.a) (asked 3 (legal m s f.b && target_legal m s f f.kind) (asked 4 (legal m s f.c) o))))
            p.1,
      )

  pub stuck_exactly : (k : ℕ) → (step m s ≡ stuck k) ↔ FirstFailing (reasons m s) k
  stuck_exactly k =
      let e = step_asks in (
        (λ h. stuck_first e.0 (reasons m s) (rw e.1 at h)),
        λ f. e.1 ∙ subst (λ (rs : List Rule). asks rs (goes e.0) ≡ stuck k) (sym f.split) (fails_at f.before f.after k _ f.hold),
      )

  pub legal_exactly : ((t : State) × (step m s ≡ goes t)) ↔ All (reasons m s)
  legal_exactly =
      let e = step_asks in (
        (λ h. goes_all e.0 (reasons m s) (rw e.1 at h.1)),
        λ all. (e.0, e.1 ∙ all_goes (reasons m s) (goes e.0) all),
      )
