-- What the rules of the execution table say of a row x and its pair y, with no flag and no polynomial left. That they
-- say exactly this is proved in Read and Written.
-- Assumes nothing.
use mathlib.Core.Path.{◌≡◌}
use Prim.Native.Nat.{ℕ, ◌<◌}
use Rattle.form.specs.declared.Form.{Form}
use Rattle.form.specs.declared.Kind.{Kind}
use Rattle.form.specs.declared.Kind.TheVariants.{Add, Mul, Deref, Jump, Extension}
use Rattle.rows.specs.declared.Exec.{Exec}
use Rattle.rules.specs.Given.{Given}
use Rattle.machine.specs.Machine.{Machine, State, value}
use Rattle.machine.specs.Step.{target}
use Rattle.run_steps.specs.Setting.{machine_in, state_of}
use Rattle.run_steps.proofs.Legal.{Does}
use Rattle.run_steps.proofs.Operands.{Columns}

-- DEREF's B column is its target
abbrev pub Points : Machine → State → Form → ℕ → Kind → Type 0
Points m s f addr Add = Unit
Points m s f addr Mul = Unit
Points m s f addr Deref = addr ≡ target m s f
Points m s f addr Jump = Unit
Points m s f addr (Extension op be n) = Unit

-- the columns of the three operands
pub record Operands (g : Given) (x : Exec) (f : Form) : Type 0 where
  pub a : Columns g (state_of x) f.a x.addrA x.valueA
  pub b : Columns g (state_of x) f.b x.addrB x.valueB
  pub c : Columns g (state_of x) f.c x.addrC x.valueC

abbrev pub DoesRow : Given → Exec → Exec → Form → Kind → Type 0
DoesRow g x y f k =
    let m = machine_in g in
    let s = state_of x in
    Does m s (state_of y) f k (value m s f.a) (value m s f.b) (value m s f.c)

pub record Meaning (g : Given) (x y : Exec) (f : Form) : Type 0 where
  pub pc_in : x.pc < g.count
  pub operands : Operands g x f
  pub points : Points (machine_in g) (state_of x) f x.addrB f.kind
  pub does : DoesRow g x y f f.kind
