-- The tabler's row of a legal step meets the rules with any row of the next state, and pushes what the machine calls.
-- Its columns lie where the operands' cells are, or at cell 0; a step that goes is legal, and Meaning is shown of the
-- row.
-- Assumes nothing.
use mathlib.Core.Path.{◌≡◌, refl}
use mathlib.Core.Logic.{inl, inr}
use Prim.Native.Nat.{ℕ, ◌≤◌, ◌<◌, ◌^◌}
use native.Mathlib.Omega.{arith}
use lib.Dec.{T}
use Rattle.word.specs.Word.{IsWord}
use Rattle.form.specs.declared.Form.{Form}
use Rattle.form.specs.declared.Kind.{Kind}
use Rattle.form.specs.declared.Kind.TheVariants.{Add, Mul, Deref, Jump, Extension}
use Rattle.form.specs.declared.Instruction.{Instruction}
use Rattle.form.proofs.Forms.{Formed, Words}
use Rattle.rows.specs.declared.Exec.{Exec}
use Rattle.rules.specs.Given.{Given}
use Rattle.rules.specs.Execution.{exec_rules}
use Rattle.rules.specs.Satisfies.{All}
use Rattle.machine.specs.Machine.{Machine, State, legal}
use Rattle.machine.specs.Step.{goes, step}
use Rattle.tables.specs.Rows.{form_at, column_b, exec_row_of}
use Rattle.run_steps.specs.Setting.{machine_in, state_of, Fit, ExecWords, MemoryHolds, Pushes}
use Rattle.run_steps.proofs.Legal.{Forward, Does, LegalStep, goes_only_if}
use Rattle.run_steps.proofs.Rules.{numbered}
use Rattle.run_steps.proofs.Operands.{Columns, tabled_operand, value_word}
use Rattle.run_steps.proofs.Meaning.{Points, Operands}
use Rattle.run_steps.proofs.Read.{selected}
use Rattle.run_steps.proofs.Written.{written}
use Rattle.run_steps.proofs.Pushed.{pushes_by}
use Rattle.run_steps.proofs.Sound.{formed}

-- a row's state is the state that it was made of
pub row_state_lem : (m : Machine) (s : State) → state_of (exec_row_of m s) ≡ s
unfolding exec_row_of
row_state_lem m s = refl

-- DEREF's B is an immediate, so its column may lie at the target
module _ (g : Given) (s t : State) (i : Instruction) (f : Form) (formed : Formed i f) (some : 0 < g.size) (fits : T (legal (machine_in g) s f.b)) (a b c : ℕ) where
  column_b_lem : (k : Kind) → Words i k → Does (machine_in g) s t f k a b c → Columns g s f.b (column_b (machine_in g) s f k) (g.cell (column_b (machine_in g) s f k))
  column_b_lem Add ws d = tabled_operand g s f.b some fits
  column_b_lem Mul ws d = tabled_operand g s f.b some fits
  column_b_lem Deref (o, plain, fa, fb) (h, e, w) = record { looked = record { exists = h; holds = refl }; at = rw (formed.b_is, fb) tt }
  column_b_lem Jump ws d = tabled_operand g s f.b some fits
  column_b_lem (Extension op be n) ws d = tabled_operand g s f.b some fits

points : (m : Machine) (s : State) (f : Form) (k : Kind) → Points m s f (column_b m s f k) k
points m s f Add = tt
points m s f Mul = tt
points m s f Deref = refl
points m s f Jump = tt
points m s f (Extension op be n) = tt

-- where a step goes to is a pair of words again
module _ (g : Given) (few : g.count ≤ 2 ^ 20) (s t : State) (f : Form) (w : IsWord s.fp) (pc_in : s.pc < g.count) (a b c : ℕ) where
  on : Forward s t → IsWord t.pc × IsWord t.fp
  on d = (omega arith, omega arith)

  lands_on_words : IsWord b → IsWord c → (k : Kind) → Does (machine_in g) s t f k a b c → IsWord t.pc × IsWord t.fp
  lands_on_words wb wc Add (e, d) = on d
  lands_on_words wb wc Mul (e, d) = on d
  lands_on_words wb wc Deref (h, e, d) = on d
  lands_on_words wb wc Jump (inl (z, d)) = on d
  lands_on_words wb wc Jump (inr (o, d)) = (omega arith, omega arith)
  lands_on_words wb wc (Extension op be n) d = on d

module _ (g : Given) (fit : Fit g) (s t : State) (w : IsWord s.fp) (e : step (machine_in g) s ≡ goes t) where
  step_legal : LegalStep (machine_in g) s t
  step_legal = goes_only_if e

  its_form : Formed (g.instruction s.pc) (form_at (machine_in g) s)
  its_form = formed g fit s.pc step_legal.pc_in

  tabled_operands : Operands g (exec_row_of (machine_in g) s) (form_at (machine_in g) s)
  unfolding exec_row_of
  tabled_operands =
      let f = form_at (machine_in g) s in
      record {
        a = tabled_operand g s f.a fit.some step_legal.legal.a;
        b = column_b_lem g s t _ f its_form fit.some step_legal.legal.b _ _ _ f.kind its_form.words step_legal.does;
        c = tabled_operand g s f.c fit.some step_legal.legal.c;
      }

  -- every column of the tabler's row is a word
  pub tabled_words : ExecWords (exec_row_of (machine_in g) s)
  unfolding exec_row_of
  tabled_words =
      let o = tabled_operands in
      record {
        pc = omega (arith, step_legal.pc_in, fit.few);
        fp = w;
        addrA = omega (arith, o.a.looked.exists, fit.small);
        addrB = omega (arith, o.b.looked.exists, fit.small);
        addrC = omega (arith, o.c.looked.exists, fit.small);
        valueA = fit.cells _ o.a.looked.exists;
        valueB = fit.cells _ o.b.looked.exists;
        valueC = fit.cells _ o.c.looked.exists;
      }

  -- and its rules hold beside a row of the next state
  pub tabled_rules : (y : Exec) → state_of y ≡ t
      → (let x = exec_row_of (machine_in g) s in All (exec_rules g x y (g.instruction x.pc)))
  unfolding exec_row_of
  tabled_rules y same =
      let m = machine_in g in
      let f = form_at m s in
      numbered g (exec_row_of m s) y _
      (written g (exec_row_of m s) y _ f its_form fit.few tabled_words (fit.operands s.pc step_legal.pc_in)
      (record {
        pc_in = step_legal.pc_in;
        operands = tabled_operands;
        points = points m s f f.kind;
        does = rw same step_legal.does;
      }))

  -- it pushes one call if the step is an extension's, and nothing if not
  pub tabled_pushes : Pushes g (exec_row_of (machine_in g) s)
  unfolding exec_row_of
  tabled_pushes =
      let m = machine_in g in
      let f = form_at m s in
      pushes_by g (exec_row_of m s) _ f
      (selected g (exec_row_of m s) _ f its_form tabled_words (fit.operands s.pc step_legal.pc_in) tabled_operands)
      f.kind its_form.words

  -- whose cells exist and hold the result
  pub memory_holds : MemoryHolds (machine_in g) s
  memory_holds = step_legal.memory

  -- the next state is made of words
  pub next_words : IsWord t.pc × IsWord t.fp
  next_words =
      let f = form_at (machine_in g) s in
      let u = fit.operands s.pc step_legal.pc_in in
      lands_on_words g fit.few s t f w step_legal.pc_in _ _ _
      (value_word g s f.b fit (rw its_form.b_is u.b) step_legal.legal.b)
      (value_word g s f.c fit (rw its_form.c_is u.c) step_legal.legal.c)
      f.kind step_legal.does
