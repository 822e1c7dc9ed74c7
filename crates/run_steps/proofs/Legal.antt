-- What a legal step is, as facts: the machine's tests in STUCK's order all pass. Both ways, by the tests in turn.
-- Assumes nothing.
use mathlib.Core.Path.{◌≡◌, refl, sym, ap}
use mathlib.Core.Logic.{◌⊎◌, inl, inr}
use mathlib.Core.Bool.{Bool, true, false, ◌&&◌, ◌||◌}
use Prim.Native.Nat.{ℕ, ◌+◌, ◌<◌}
use native.Mathlib.Omega.{arith}
use borrow.Author.Tests.{eqb-true}
use lib.Dec.{T, ltb, eqb, eqb→eq, ltb→lt, lt→ltb}
use Rattle.word.specs.Word.{◌+ₚ◌, ◌*ₚ◌}
use Rattle.form.specs.declared.Form.{Form}
use Rattle.form.specs.declared.Kind.{Kind}
use Rattle.form.specs.declared.Kind.TheVariants.{Add, Mul, Deref, Jump, Extension}
use Rattle.machine.specs.Machine.{Machine, State, value, legal}
use Rattle.machine.specs.Extension.{element_at, cells_exist, extension_result, same_element}
use Rattle.machine.specs.Step.{Outcome, goes, asked, target, target_legal, landing, jumps, performed, step}
use Rattle.tables.specs.Rows.{form_at}
use Rattle.run_steps.specs.Setting.{LegalOperands, ExtensionHolds, MemoryHolds}
use Rattle.word.proofs.Tests.{both, and, eq→eqb}

-- two states with the same numbers are the same
pub same_state_lem : {s t : State} → s.pc ≡ t.pc → s.fp ≡ t.fp → s ≡ t
same_state_lem p q = λ i. record { pc = p i; fp = q i }

-- a step has one successor
pub one_successor : {o : Outcome} {t t' : State} → o ≡ goes t → o ≡ goes t' → t ≡ t'
one_successor e e' = cc

-- a state by its numbers
pub record Lands (t : State) (dest frame : ℕ) : Type 0 where
  pub pc : t.pc ≡ dest
  pub fp : t.fp ≡ frame

-- on to the next instruction in the same frame
abbrev pub Forward : State → State → Type 0
Forward s t = Lands t (s.pc + 1) s.fp

-- at 0 a jump isn't taken, at 1 it is, and there is no other condition
abbrev pub Jumps : State → State → ℕ → ℕ → ℕ → Type 0
Jumps s t condition dest frame = ((condition ≡ 0) × Forward s t) ⊎ ((condition ≡ 1) × Lands t dest frame)

-- what each kind asks of its operands' values but for the memory of an extension, and where it goes
abbrev pub Does : Machine → State → State → Form → Kind → ℕ → ℕ → ℕ → Type 0
Does m s t f Add a b c = (a +ₚ c ≡ b) × Forward s t
Does m s t f Mul a b c = (a *ₚ c ≡ b) × Forward s t
Does m s t f Deref a b c = (target m s f < m.size) × (m.cell (target m s f) ≡ c) × Forward s t
Does m s t f Jump a b c = Jumps s t a b c
Does m s t f (Extension op be n) a b c = Forward s t

-- a step that passes every test
pub record LegalStep (m : Machine) (s t : State) : Type 0 where
  pub pc_in : s.pc < m.count
  pub legal : LegalOperands m s
  pub does :
      Does m s t (form_at m s) (form_at m s).kind (value m s (form_at m s).a) (value m s (form_at m s).b) (value m s (form_at m s).c)
  pub memory : MemoryHolds m s

passes : (n : ℕ) (b : Bool) {o o' : Outcome} → T b → o ≡ o' → asked n b o ≡ o'
passes n true t e = e
passes n false t e = absurd t

passed : (n : ℕ) (b : Bool) {o : Outcome} {t : State} → asked n b o ≡ goes t → T b × (o ≡ goes t)
passed n true e = (tt, e)
passed n false e = absurd (let z : ◌≡◌ {A = ℕ} 0 1 = cc in omega arith)

goes_to : {t : State} {dest frame : ℕ} → Lands t dest frame → goes (record { pc = dest; fp = frame }) ≡ goes t
goes_to w = ap goes (same_state_lem (sym w.pc) (sym w.fp))

went_to : {t : State} {dest frame : ℕ} → goes (record { pc = dest; fp = frame }) ≡ goes t → Lands t dest frame
went_to e =
    let same = one_successor e refl in
    record { pc = ap (λ (s : State). s.pc) same; fp = ap (λ (s : State). s.fp) same }

jumps_if : (s t : State) (a b c : ℕ) → Jumps s t a b c → jumps a b c s ≡ goes t
jumps_if s t a b c (inl (off, w)) = rw off (goes_to w)
jumps_if s t a b c (inr (on, w)) = rw on (goes_to w)

jumped : (s t : State) (a b c : ℕ) → jumps a b c s ≡ goes t → Jumps s t a b c
jumped s t a b c e = by (eqb a 0) (eqb a 1) refl refl (passed 6 (eqb a 0 || eqb a 1) e)
  where
    by : (off on : Bool) → eqb a 0 ≡ off → eqb a 1 ≡ on
        → T (eqb a 0 || eqb a 1) × (landing (eqb a 1) (record { pc = b; fp = c }) (record { pc = s.pc + 1; fp = s.fp }) ≡ goes t)
        → Jumps s t a b c
    by off true e₀ e₁ (h, e) = inr (eqb-true a 1 e₁, went_to (rw e₁ at e))
    by true false e₀ e₁ (h, e) = inl (eqb-true a 0 e₀, went_to (rw e₁ at e))
    by false false e₀ e₁ (h, e) = absurd (rw (e₀, e₁) at h)

module _ (m : Machine) (s t : State) (f : Form) where
  module _ (a b c : ℕ) where
    performs_if : (k : Kind) → Does m s t f k a b c → ExtensionHolds m k a b c → performed m s f k a b c ≡ goes t
    performs_if Add (e, w) x = passes 5 (eqb (a +ₚ c) b) (eq→eqb e) (goes_to w)
    performs_if Mul (e, w) x = passes 5 (eqb (a *ₚ c) b) (eq→eqb e) (goes_to w)
    performs_if Deref (h, e, w) x = passes 5 (eqb (m.cell (target m s f)) c) (eq→eqb e) (goes_to w)
    performs_if Jump d x = jumps_if s t a b c d
    performs_if (Extension op be n) w (exist, same) =
        passes 7 (cells_exist m.size be n a b c) exist
        (passes 8 (same_element (element_at m.cell c) (extension_result m.cell op be a b 0 n)) same (goes_to w))

    target_if : (k : Kind) → Does m s t f k a b c → T (target_legal m s f k)
    target_if Add d = tt
    target_if Mul d = tt
    target_if Deref (h, e, w) = lt→ltb _ _ h
    target_if Jump d = tt
    target_if (Extension op be n) d = tt

    does_what : (k : Kind) → T (target_legal m s f k) → performed m s f k a b c ≡ goes t → Does m s t f k a b c × ExtensionHolds m k a b c
    does_what Add h e =
        let (t, e) = passed 5 (eqb (a +ₚ c) b) e in
        ((eqb→eq _ _ t, went_to e), tt)
    does_what Mul h e =
        let (t, e) = passed 5 (eqb (a *ₚ c) b) e in
        ((eqb→eq _ _ t, went_to e), tt)
    does_what Deref h e =
        let (t, e) = passed 5 (eqb (m.cell (target m s f)) c) e in
        ((ltb→lt _ _ h, eqb→eq _ _ t, went_to e), tt)
    does_what Jump h e = (jumped s t a b c e, tt)
    does_what (Extension op be n) h e =
        let (exist, e) = passed 7 (cells_exist m.size be n a b c) e in
        let (same, e) = passed 8 (same_element (element_at m.cell c) (extension_result m.cell op be a b 0 n)) e in
        (went_to e, (exist, same))

module _ {m : Machine} {s t : State} where
  pub goes_if : LegalStep m s t → step m s ≡ goes t
  unfolding step
  goes_if l =
      let f = form_at m s in
      let b-and-target = and (legal m s f.b) (target_legal m s f f.kind) l.legal.b (target_if m s t f _ _ _ f.kind l.does) in
      passes 1 (ltb s.pc m.count) (lt→ltb _ _ l.pc_in)
      (passes 2 (legal m s f.a) l.legal.a
      (passes 3 (legal m s f.b && target_legal m s f f.kind) b-and-target
      (passes 4 (legal m s f.c) l.legal.c
      (performs_if m s t f _ _ _ f.kind l.does l.memory))))

  pub goes_only_if : step m s ≡ goes t → LegalStep m s t
  unfolding step
  goes_only_if e =
      let f = form_at m s in
      let (h₁, e) = passed 1 (ltb s.pc m.count) e in
      let (h₂, e) = passed 2 (legal m s f.a) e in
      let (h₃, e) = passed 3 (legal m s f.b && target_legal m s f f.kind) e in
      let (h₄, e) = passed 4 (legal m s f.c) e in
      let (b-legal, there) = both (legal m s f.b) (target_legal m s f f.kind) h₃ in
      let (does, memory) = does_what m s t f _ _ _ f.kind there e in
      record { pc_in = ltb→lt _ _ h₁; legal = record { a = h₂; b = b-legal; c = h₄ }; does = does; memory = memory }
