-- The form of a row that is listed: its instruction is there and is well-formed, and it has a counter; and what
-- rows of one pc count.
-- Assumes nothing.
use mathlib.Core.Path.{◌≡◌, refl, sym, ap, ◌∙◌}
use mathlib.Core.Bool.{Bool, true, false, cond}
use mathlib.Core.List.{List, []}
use Prim.Native.Nat.{ℕ, zero, suc, ◌+◌, ◌-◌, ◌*◌, ◌/◌, ◌≤◌, ◌<◌, ◌^◌}
use native.Mathlib.Omega.{arith}
use borrow.Author.Tests.{eq-eqb, ne_eqb}
use lib.Dec.{eqb}
use lib.ListN.{length, get_or, set, length-set}
use lib.Seq.{get_or-set_same, get_or-set_other}
use Rattle.word.specs.Bytes.{word_at}
use Rattle.word.proofs.Tests.{from_true, by_equal}
use Rattle.form.specs.Form.{decode_of, well_formed}
use Rattle.form.specs.Instruction.{instruction_at}
use Rattle.rows.specs.Rows.{exec_at}
use Rattle.rules.specs.Bus.{total}
use Rattle.rules.specs.Sizes.{given, tables}
use Rattle.rules.proofs.Totals.{total_same, total_zero, total_split}
use Rattle.bus_tuples.specs.Ready.{Listed}
use Rattle.grid_spec.specs.Forms.{counter_of, counter_at, rows_of}
use Rattle.grid_spec.specs.Grid.{sum_of, limit}
use Rattle.grid_spec.proofs.Counts.{counter_few, rows_most}
use Rattle.grid_spec.proofs.Listed.{at_most_sum}

module _ (program exec : List ℕ) (r : ℕ) where
  abbrev pub here : ℕ
  here = counter_at (given program []) (tables exec []) r

  pub form_read : counter_of (decode_of (instruction_at program (48 * word_at exec (32 * r)))) ≡ here
  unfolding counter_at exec_at
  form_read = refl

  module _ (listed : Listed program exec) (inside : r < length exec / 32) where
    pub pc_inside : word_at exec (32 * r) < length program / 48
    unfolding exec_at
    pc_inside = listed.inside r inside

    pub well : well_formed (instruction_at program (48 * word_at exec (32 * r))) ≡ true
    well = listed.formed (word_at exec (32 * r)) pc_inside

    pub few : here < 135
    few = rw (sym form_read) (counter_few (decode_of (instruction_at program (48 * word_at exec (32 * r)))) (from_true _ well))

-- a grid of which rows are counted: counter by counter
abbrev pub CountedTo : List ℕ → List ℕ → List ℕ → ℕ → List ℕ → Type 0
CountedTo program exec grid r counted =
    (length counted ≡ 135) × ((k : ℕ) → k < 135 → get_or counted k 0 ≡ get_or grid k 0 + rows_of (given program []) (tables exec []) k r)

-- rows that all count alike
alike : (b : Bool) (n : ℕ) → total (λ j. cond b 1 0) n ≡ cond b n 0
alike true zero = refl
alike true (suc n) = omega (arith, alike true n)
alike false n = total_zero (λ j. 0) n (λ j h. refl)

-- rows of one pc, from r to end
abbrev pub SameTo : List ℕ → ℕ → ℕ → Type 0
SameTo exec r end = (j : ℕ) → r ≤ j → j < end → word_at exec (32 * j) ≡ word_at exec (32 * r)

module _ (program exec : List ℕ) (r end : ℕ) (some : r < end) (same : SameTo exec r end) where
  -- all of them count for row r's counter
  same_form : (j : ℕ) → r ≤ j → j < end → here program exec j ≡ here program exec r
  same_form j low high =
      sym (form_read program exec j)
      ∙ ap (λ (pc : ℕ). counter_of (decode_of (instruction_at program (48 * pc)))) (same j low high)
      ∙ form_read program exec r

  rows_more : (k : ℕ)
      → rows_of (given program []) (tables exec []) k end
      ≡ rows_of (given program []) (tables exec []) k r + cond (eqb (here program exec r) k) (end - r) 0
  rows_more k =
      let counts : ℕ → ℕ = λ j. cond (eqb (here program exec j) k) 1 0 in
      let whole : end ≡ r + (end - r) = omega arith in
      ap (total counts) whole
      ∙ total_split counts r (end - r)
      ∙ ap (λ (n : ℕ). total counts r + n)
      (total_same (λ j. counts (r + j)) (λ j. cond (eqb (here program exec r) k) 1 0) (end - r)
      (λ j h. ap (λ (x : ℕ). cond {A = ℕ} (eqb x k) 1 0) (same_form (r + j) (omega arith) (omega arith)))
      ∙ alike (eqb (here program exec r) k) (end - r))

  module _ (grid counted : List ℕ) (so_far : CountedTo program exec grid r counted) where
    abbrev at : ℕ
    at = here program exec r

    -- its counter has room for them
    pub room : sum_of grid + end ≤ limit → at < 135 → get_or counted at 0 + (end - r) < 2 ^ 63
    room below h = omega (arith, so_far.1 at h, at_most_sum grid at, rows_most (given program []) (tables exec []) at r)

    -- and with them it has counted to the end
    pub counted_on : at < 135 → CountedTo program exec grid end (set counted at (get_or counted at 0 + (end - r)))
    counted_on small = (
      length-set counted at _ ∙ so_far.0,
      λ k h.
          by_equal at k
          (λ e.
          let more : ◌≡◌ {A = ℕ} (cond (eqb at k) (end - r) 0) (end - r) = rw (eq-eqb at k e) in
          ap (λ (j : ℕ). get_or (set counted at (get_or counted at 0 + (end - r))) j 0) (sym e)
          ∙ get_or-set_same counted at (get_or counted at 0 + (end - r)) 0 (omega (arith, so_far.0))
          ∙ omega (arith, so_far.1 k h, rows_more k, more, ap (λ (j : ℕ). get_or counted j 0) e))
          (λ other.
          let none : ◌≡◌ {A = ℕ} (cond (eqb at k) (end - r) 0) 0 = rw (ne_eqb at k other) in
          get_or-set_other counted at k (get_or counted at 0 + (end - r)) 0 (λ e. other (sym e)) ∙ omega (arith, so_far.1 k h, rows_more k, none)),
    )
