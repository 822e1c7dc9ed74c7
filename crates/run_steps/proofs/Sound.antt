-- Each row of the execution table that meets its rules is a step of the machine, and pushes what the machine calls.
-- The rules mean what Meaning has, and that makes a legal step. Assumes nothing.
use mathlib.Core.Path.{◌≡◌}
use Prim.Native.Nat.{ℕ, ◌<◌}
use native.Mathlib.Omega.{arith}
use lib.Dec.{ltb→lt}
use Rattle.form.specs.declared.Form.{Form}
use Rattle.form.specs.declared.Kind.{Kind}
use Rattle.form.specs.declared.Kind.TheVariants.{Add, Mul, Deref, Jump, Extension}
use Rattle.form.proofs.Forms.{Formed, well, formed_of}
use Rattle.rows.specs.declared.Exec.{Exec}
use Rattle.rules.specs.Given.{Given}
use Rattle.rules.specs.Execution.{exec_rules}
use Rattle.rules.specs.Satisfies.{All}
use Rattle.machine.specs.Machine.{Machine, State, value}
use Rattle.machine.specs.Step.{goes, step}
use Rattle.tables.specs.Rows.{form_at}
use Rattle.run_steps.specs.Setting.{machine_in, state_of, Fit, ExecWords, Selected, LegalOperands, ExtensionHolds, MemoryHolds, Pushes}
use Rattle.word.proofs.Tests.{is_true}
use Rattle.run_steps.proofs.Legal.{Does, goes_if}
use Rattle.run_steps.proofs.Rules.{sorted}
use Rattle.run_steps.proofs.Operands.{legal_operand}
use Rattle.run_steps.proofs.Meaning.{Meaning}
use Rattle.run_steps.proofs.Read.{read, selected}
use Rattle.run_steps.proofs.Pushed.{pushes_by}

-- the instruction at a pc of the program has the machine's form
pub formed : (g : Given) → Fit g → (pc : ℕ) → pc < g.count → Formed (g.instruction pc) ((machine_in g).form pc)
formed g fit pc h =
    let i = g.instruction pc in
    let (f, e) = well i (is_true _ (fit.well_formed pc h)) in
    rw e (formed_of i f e)

module _ (g : Given) (fit : Fit g) (x y : Exec) (w : ExecWords x) (v : ExecWords y) (rules : All (exec_rules g x y (g.instruction x.pc))) where
  pc_in : x.pc < g.count
  pc_in = ltb→lt _ _ (sorted g x y _ rules).in_program

  -- what the rules say, with no polynomial
  pub row_means : Meaning g x y (form_at (machine_in g) (state_of x))
  row_means = read g x _ _ (formed g fit x.pc pc_in) y w v fit.few (fit.operands x.pc pc_in) (sorted g x y _ rules)

  -- the selected values are the operands' values
  pub row_selects : Selected g x (g.instruction x.pc) (form_at (machine_in g) (state_of x))
  row_selects = selected g x _ _ (formed g fit x.pc pc_in) w (fit.operands x.pc pc_in) row_means.operands

  -- and the operands are legal
  pub row_legal : LegalOperands (machine_in g) (state_of x)
  row_legal =
      let o = row_means.operands in
      record {
        a = legal_operand g (state_of x) _ o.a;
        b = legal_operand g (state_of x) _ o.b;
        c = legal_operand g (state_of x) _ o.c;
      }

  -- a row steps to its pair; of an extension the memory has to hold what it asks
  pub row_steps : MemoryHolds (machine_in g) (state_of x) → step (machine_in g) (state_of x) ≡ goes (state_of y)
  row_steps memory = goes_if (record { pc_in = pc_in; legal = row_legal; does = row_means.does; memory = memory })

  -- a row pushes one call if it is an extension's, and nothing if not
  pub row_pushes : Pushes g x
  row_pushes = pushes_by g x _ _ row_selects (form_at (machine_in g) (state_of x)).kind (formed g fit x.pc pc_in).words

-- no extension stays where it is, so one that does asks nothing
staying_memory : (m : Machine) (s : State) (f : Form) (a b c : ℕ) (k : Kind) → Does m s s f k a b c → ExtensionHolds m k a b c
staying_memory m s f a b c Add d = tt
staying_memory m s f a b c Mul d = tt
staying_memory m s f a b c Deref d = tt
staying_memory m s f a b c Jump d = tt
staying_memory m s f a b c (Extension op be n) d = absurd (omega arith)

-- the last row is paired with itself, so its step stays
pub last_stays : (g : Given) (fit : Fit g) (x : Exec) (w : ExecWords x) (rules : All (exec_rules g x x (g.instruction x.pc)))
    → step (machine_in g) (state_of x) ≡ goes (state_of x)
last_stays g fit x w rules =
    let m = machine_in g in
    let s = state_of x in
    let f = form_at m s in
    row_steps g fit x x w w rules
    (staying_memory m s f (value m s f.a) (value m s f.b) (value m s f.c) f.kind (row_means g fit x x w w rules).does)
