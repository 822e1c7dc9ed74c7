-- In an accepted table the three steps of a range check are legal, so both cells' words are below M and their sum,
-- which is below p, is t - 1.
-- Assumes nothing.
use mathlib.Core.Path.{◌≡◌, refl, ap, subst, ◌∙◌}
use Prim.Native.Nat.{ℕ, ◌+◌, ◌-◌, ◌*◌, ◌≤◌, ◌<◌, ◌^◌}
use native.Mathlib.Numerals.{add-one}
use native.Mathlib.Omega.{arith}
use lib.Dec.{T, ltb→lt}
use Rattle.word.specs.Word.{p, ◌+ₚ◌}
use Rattle.word.proofs.WordLaws.{sum_zero}
use Rattle.form.specs.declared.Form.{Form}
use Rattle.form.specs.declared.Operand.{Operand}
use Rattle.form.specs.declared.Mode.TheVariants.{Cell}
use Rattle.answer.specs.Answers.{Accepted}
use Rattle.word.proofs.Tests.{by_order}
use Rattle.machine.specs.Machine.{Machine, State, value, legal}
use Rattle.machine.specs.Step.{step, goes}
use Rattle.machine.specs.Run.{StayingRun}
use Rattle.tables.specs.Machine.{form_in}
use Rattle.tables.specs.Rows.{form_at}
use Rattle.rules.specs.Given.{next}
use Rattle.rules.specs.Sizes.{Parts, given_of, tables_of}
use Rattle.judge_spec.specs.Judged.{judge_of}
use Rattle.judge_spec.proofs.Exactly.{accepted_satisfies}
use Rattle.run_steps.proofs.Operands.{Columns}
use Rattle.run_steps.proofs.Sound.{row_means}
use Rattle.run_steps.proofs.Legal.{Does, LegalStep, goes_only_if}
use Rattle.run_groups.proofs.Pairs.{next_inner}
use Rattle.run.specs.Runs.{Input, machine, start_of, last_row, row_state}
use Rattle.run.proofs.Sound.{sound}
use Rattle.run.proofs.Words.{exec_words_lem, fit}
use Rattle.range_spec.specs.RangeCheck.{operand, RangeCheck, deref_of, add_of}
use Rattle.range_law.specs.Ranges.{cell_checked, Bounded}

-- two words below M whose sum modulo p is t - 1
below_sum : (a b m t : ℕ) → a < m → b < m → m ≤ 2 ^ 29 → a +ₚ b ≡ t - 1 → 1 ≤ t → (a < t) × (t ≤ p) × (t < 2 * m)
unfolding ◌+ₚ◌
below_sum a b m t ha hb hm e some = (omega arith, omega arith, omega arith)

-- a legal step of an instruction whose form is known: A is read, and what its kind asks is so
abbrev LegalAs : Machine → State → State → Form → Type 0
LegalAs m s t f = T (legal m s f.a) × Does m s t f f.kind (value m s f.a) (value m s f.b) (value m s f.c)

module _ (q : Parts) (e : judge_of q ≡ Accepted) where
  abbrev input : Input
  input = record { program = q.program; memory = q.memory; pc = q.pc; fp = q.fp }

  abbrev m : Machine
  m = machine input

  abbrev state : ℕ → State
  state = row_state q.exec

  legal_step : (s t : State) (f : Form) → step m s ≡ goes t → form_at m s ≡ f → LegalAs m s t f
  legal_step s t f goes_on is =
      let l : LegalStep m s t = goes_only_if goes_on in
      subst (LegalAs m s t) is (l.legal.a, l.does)

  abbrev run : StayingRun m (start_of input) (last_row q.exec) state
  run = (sound input q.exec q.ext e).run

  -- a row that another one follows, and any row
  followed : (r : ℕ) (f : Form) → r + 1 < (tables_of q).height → form_at m (state r) ≡ f → LegalAs m (state r) (state (r + 1)) f
  followed r f h is = legal_step (state r) (state (r + 1)) f (rw (← add-one r) at (run.steps r (omega arith))) is

  any : (r : ℕ) (f : Form) → r < (tables_of q).height → form_at m (state r) ≡ f → (t : State) × LegalAs m (state r) t f
  any r f h is =
      by_order (r + 1) (tables_of q).height
      (λ more. (state (r + 1), followed r f more is))
      (λ last.
      let same : r ≡ last_row q.exec = omega arith in
      (state r, legal_step (state r) (state r) f (rw (← same) at run.stays) is))

  module _ (r x j bound : ℕ) (c : RangeCheck (given_of q) (tables_of q) r x j bound) where
    one : LegalAs m (state r) (state (r + 1)) (deref_of x c.first_c)
    one = let h = c.inside in followed r (deref_of x c.first_c) (omega arith) (ap form_in c.first)

    two : LegalAs m (state (r + 1)) (state (r + 1 + 1)) (add_of x j (bound - 1))
    two = let h = c.inside in followed (r + 1) (add_of x j (bound - 1)) (omega arith) (ap form_in c.second)

    three : (t : State) × LegalAs m (state (r + 2)) t (deref_of j c.last_c)
    three = any (r + 2) (deref_of j c.last_c) c.inside (ap form_in c.last)

    next_frame : ((tables_of q).exec (r + 1)).fp ≡ ((tables_of q).exec r).fp
    next_frame = one.1.2.fp

    last_frame : ((tables_of q).exec (r + 2)).fp ≡ ((tables_of q).exec r).fp
    last_frame = let e : r + 1 + 1 ≡ r + 2 = omega arith in (rw e at two.1.1.fp) ∙ next_frame

    pub same_frame : (((tables_of q).exec (r + 1)).fp ≡ ((tables_of q).exec r).fp) × (((tables_of q).exec (r + 2)).fp ≡ ((tables_of q).exec r).fp)
    same_frame = (next_frame, last_frame)

    -- what DEREF names is a cell
    abbrev cell_at : ℕ → ℕ
    cell_at offset = (given_of q).cell (cell_checked q r offset)

    named : (s t : State) (offset : ℕ) (other : Operand) → s.fp ≡ ((tables_of q).exec r).fp → LegalAs m s t (deref_of offset other)
        → (cell_checked q r offset < (given_of q).size) × (cell_at offset < (given_of q).size)
    named s t offset other frame l =
        let f = fit q (accepted_satisfies q e) in
        let exists : s.fp +ₚ offset < (given_of q).size = ltb→lt _ _ l.0 in
        let zero = sum_zero ((given_of q).cell (s.fp +ₚ offset)) (f.cells _ exists) in
        (rw frame at exists, rw frame at (rw zero at l.1.0))

    -- the first row's A columns
    a_columns : Columns (given_of q) (state r) (operand Cell x) ((tables_of q).exec r).addrA ((tables_of q).exec r).valueA
    a_columns =
        let s = accepted_satisfies q e in
        let inside = c.inside in
        let n = next (tables_of q).height r in
        let follows : n ≡ r + 1 = next_inner (tables_of q).height r (omega arith) in
        let words = exec_words_lem q.exec s.exec_words in
        let means = row_means (given_of q) (fit q s) ((tables_of q).exec r) ((tables_of q).exec n) (words r (omega arith)) (words n (omega arith)) (s.constraints.execution r (omega arith)) in
        rw (ap form_in c.first) at means.operands.a

    pub bounded : Bounded q r x bound
    bounded =
        let left = named (state r) (state (r + 1)) x c.first_c refl one in
        let right = named (state (r + 2)) three.0 j c.last_c last_frame three.1 in
        let sums : cell_at x +ₚ cell_at j ≡ bound - 1 = rw next_frame at two.1.0 in
        let (below, most, most-cells) = below_sum (cell_at x) (cell_at j) (given_of q).size bound left.1 right.1 (fit q (accepted_satisfies q e)).small sums c.some in
        let address = a_columns.at in
        record {
          exists = left.0;
          below = below;
          small = left.1;
          most = (most, most-cells);
          address = address;
          value = a_columns.looked.holds ∙ ap (given_of q).cell address;
        }
