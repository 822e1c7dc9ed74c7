-- Document 01, "The machine, without flags" and STUCK of "Verdicts"; draft 0.6.0, 2.4: a step is legal with one next
-- state, or stuck with the first reason in STUCK's order.
-- Declared in src/: Form, Kind (form).
use Rattle.std.specs.Prelude.{ℕ, ◌+◌, Bool, true, false, ◌&&◌, ◌||◌, ltb, eqb}
use Rattle.word.specs.Word.{◌+ₚ◌, ◌*ₚ◌}
pub use Rattle.outcome.specs.Outcome.{Outcome, goes, stuck, asked}
use Rattle.form.specs.declared.Form.{Form}
use Rattle.form.specs.declared.Kind.{Kind}
use Rattle.form.specs.declared.Kind.TheVariants.{Add, Mul, Deref, Jump, Extension}
use Rattle.machine.specs.Machine.{Machine, State, value, legal}
use Rattle.machine.specs.Extension.{element_at, cells_exist, extension_result, same_element}

abbrev pub forward : State → Outcome
forward s = goes (record { pc = s.pc + 1; fp = s.fp })

-- DEREF's target: the cell at (cell fp + α) + β
abbrev pub target : Machine → State → Form → ℕ
target m s f = value m s f.a +ₚ f.b.word

abbrev pub target_legal : Machine → State → Form → Kind → Bool
target_legal m s f Add = true
target_legal m s f Mul = true
target_legal m s f Deref = ltb (target m s f) m.size
target_legal m s f Jump = true
target_legal m s f (Extension op be n) = true

-- at 1 the jump is taken, at 0 it is not
abbrev pub landing : Bool → State → State → Outcome
landing true taken untaken = goes taken
landing false taken untaken = goes untaken

abbrev pub jumps : ℕ → ℕ → ℕ → State → Outcome
jumps condition dest frame s =
    asked 6 (eqb condition 0 || eqb condition 1)
    (landing (eqb condition 1) (record { pc = dest; fp = frame }) (record { pc = s.pc + 1; fp = s.fp }))

-- what each kind asks of its three operands' values
abbrev pub performed : Machine → State → Form → Kind → ℕ → ℕ → ℕ → Outcome
performed m s f Add a b c = asked 5 (eqb (a +ₚ c) b) (forward s)
performed m s f Mul a b c = asked 5 (eqb (a *ₚ c) b) (forward s)
performed m s f Deref a b c = asked 5 (eqb (m.cell (target m s f)) c) (forward s)
performed m s f Jump a b c = jumps a b c s
performed m s f (Extension op be n) a b c =
    asked 7 (cells_exist m.size be n a b c)
    (asked 8 (same_element (element_at m.cell c) (extension_result m.cell op be a b 0 n)) (forward s))

-- all operands are read before anything is asked of them, on an untaken jump too
abbrev pub performs : Machine → State → Form → Outcome
performs m s f =
    asked 2 (legal m s f.a)
    (asked 3 (legal m s f.b && target_legal m s f f.kind)
    (asked 4 (legal m s f.c)
    (performed m s f f.kind (value m s f.a) (value m s f.b) (value m s f.c))))

unfoldable pub step : Machine → State → Outcome
step m s = asked 1 (ltb s.pc m.count) (performs m s (m.form s.pc))
