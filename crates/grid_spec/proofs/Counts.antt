-- A table's rows by their forms: every row of an accepted table has a counter, so the counters gain as many as there
-- are rows.
-- Assumes nothing.
use mathlib.Core.Path.{◌≡◌, refl, sym, ap, ◌∙◌}
use mathlib.Core.Bool.{true, false, cond}
use mathlib.Core.List.{List, [], ◌∷◌}
use Prim.Native.Nat.{ℕ, zero, suc, ◌+◌, ◌*◌, ◌/◌, ◌≤◌, ◌<◌}
use native.Mathlib.Omega.{arith}
use lib.Dec.{T, eqb}
use lib.ListN.{length, get_or}
use Rattle.word.proofs.Tests.{from_true, by_test}
use Rattle.form.specs.Form.{decode_of, well_formed}
use Rattle.form.specs.declared.Instruction.{Instruction}
use Rattle.form.specs.declared.Form.{Form}
use Rattle.std.specs.Prelude.{Option, Some, None}
use Rattle.form.specs.declared.Kind.{Kind}
use Rattle.form.specs.declared.Kind.TheVariants.{Add, Mul, Deref, Jump, Extension}
use Rattle.form.specs.declared.Mode.{Mode}
use Rattle.form.specs.declared.Mode.TheVariants.{Immediate, Cell, Frame}
use Rattle.form.specs.Form.{is_well}
use Rattle.answer.specs.Answers.{Accepted}
use Rattle.rules.specs.Given.{Given, Tables}
use Rattle.rules.specs.Bus.{total, instruction_of}
use Rattle.rules.specs.Sizes.{Parts, given_of, tables_of}
use Rattle.rules.proofs.Totals.{total_zero, total_most}
use Rattle.judge_spec.specs.Judged.{judge_of}
use Rattle.judge_spec.proofs.AcceptedRows.{row_formed}
use Rattle.grid_spec.specs.Forms.{kind_number, mode_number, counter_of, counter_at, rows_of}
use Rattle.grid_spec.specs.Grid.{sum_of, with_rows}
use Rattle.grid_spec.proofs.Listed.{listed, listed_length, listed_at, listed_sum, is_listed, sum_total, total_add, total_one}

-- a form's counter is one of the 135
kind_few : (k : Kind) → kind_number k ≤ 4
kind_few Add = omega arith
kind_few Mul = omega arith
kind_few Deref = omega arith
kind_few Jump = omega arith
kind_few (Extension op be n) = omega arith

pub mode_few : (m : Mode) → mode_number m ≤ 2
mode_few Immediate = omega arith
mode_few Cell = omega arith
mode_few Frame = omega arith

pub counter_few : (d : Option Form) → T (is_well d) → counter_of d < 135
counter_few None t = absurd t
counter_few (Some f) t =
    omega (arith, kind_few f.kind, mode_few f.a.mode, mode_few f.b.mode, mode_few f.c.mode)

module _ (g : Given) (t : Tables) where
  -- one row counts once at most
  pub rows_most : (k n : ℕ) → rows_of g t k n ≤ n
  rows_most k n = total_most (λ r. eqb (counter_at g t r) k) n

  -- where every row has one of w counters, they gain as many as there are rows
  rows_total : (w n : ℕ) → ((r : ℕ) → r < n → counter_at g t r < w) → total (λ k. rows_of g t k n) w ≡ n
  rows_total w zero few = total_zero (λ k. 0) w (λ k h. refl)
  rows_total w (suc n) few =
      total_add (λ k. rows_of g t k n) (λ k. cond (eqb (counter_at g t n) k) 1 0) w
      ∙ omega (arith, rows_total w n (λ r h. few r (omega arith)), total_one (counter_at g t n) w (few n (omega arith)))

  sum_listed : (w n : ℕ) (grid : List ℕ) → length grid ≡ w → ((r : ℕ) → r < n → counter_at g t r < w)
      → sum_of (listed (λ k. get_or grid k 0 + rows_of g t k n) w) ≡ sum_of grid + n
  sum_listed w n grid e few =
      listed_sum (λ k. get_or grid k 0 + rows_of g t k n) w
      ∙ total_add (λ k. get_or grid k 0) (λ k. rows_of g t k n) w
      ∙ omega (arith, sum_total grid w e, rows_total w n few)

  module _ (grid : List ℕ) where
    pub counted_length : length (with_rows grid g t) ≡ 135
    unfolding with_rows
    counted_length = listed_length (λ k. get_or grid k 0 + rows_of g t k t.height) 135

    pub counted_at : (k : ℕ) → k < 135 → get_or (with_rows grid g t) k 0 ≡ get_or grid k 0 + rows_of g t k t.height
    unfolding with_rows
    counted_at = listed_at (λ k. get_or grid k 0 + rows_of g t k t.height) 135

    pub is_counted : (other : List ℕ) → length other ≡ 135
        → ((k : ℕ) → k < 135 → get_or other k 0 ≡ get_or grid k 0 + rows_of g t k t.height) → other ≡ with_rows grid g t
    unfolding with_rows
    is_counted other = is_listed (λ k. get_or grid k 0 + rows_of g t k t.height) other 135

    pub counted_sum : length grid ≡ 135 → ((r : ℕ) → r < t.height → counter_at g t r < 135) → sum_of (with_rows grid g t) ≡ sum_of grid + t.height
    unfolding with_rows
    counted_sum e few = sum_listed 135 t.height grid e few

-- in an accepted table every row's instruction is well-formed, so every row has a counter
module _ (q : Parts) (e : judge_of q ≡ Accepted) (r : ℕ) (h : r < (tables_of q).height) where
  pub accepted_few : counter_at (given_of q) (tables_of q) r < 135
  unfolding counter_at
  accepted_few =
      counter_few (decode_of (instruction_of (given_of q) (tables_of q) r)) (from_true _ (row_formed q e r h))
