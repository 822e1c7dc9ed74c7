-- Pulls in the order in which they stand: rows that are passed pull nothing, the row after a pull is past one, and so
-- execution rows that leave the pulls within the table push what is pulled before that.
-- Assumes nothing.
use mathlib.Core.Path.{◌≡◌, refl, sym, ap, ◌∙◌}
use mathlib.Core.Bool.{Bool, true, false, ◌&&◌, cond}
use mathlib.Core.List.{List, [], ◌∷◌}
use Prim.Native.Nat.{ℕ, zero, suc, ◌+◌, ◌-◌, ◌*◌, ◌/◌, ◌≤◌, ◌<◌}
use native.Mathlib.Numerals.{add-one}
use native.Mathlib.Omega.{arith}
use lib.ListN.{length}
use lib.Dec.{eqb, ltb}
use borrow.Author.Tests.{eqb-true, ltb-true, le-ltb, lt-ltb}
use Rattle.form.specs.Form.{well_formed, opcode}
use Rattle.form.specs.Instruction.{instruction_at}
use Rattle.form.specs.declared.Instruction.{Instruction}
use Rattle.word.proofs.Tests.{each}
use Rattle.rows.specs.Rows.{exec_at, ext_at}
use Rattle.rows.specs.declared.Exec.{Exec}
use Rattle.rules.specs.Bus.{Tuple, same_tuple, pushed, pushes, pulled, instruction_of, pulled_to}
use Rattle.rules.specs.Sizes.{given, tables}
use Rattle.judge_spec.specs.First.{first}
use Rattle.judge_spec.proofs.FirstLaws.{is_first}
use Rattle.bus_tuples.specs.Times.{pull_count}
use Rattle.bus_tuples.specs.Order.{PullsOnce, PullsNothing, InOrder, pulls_none, next_pull, pulls_just, after_pull, after_row, pulled_by}
use Rattle.bus_tuples.proofs.Tuples.{same_tuple_lem}
use Rattle.bus_tuples.proofs.Totals.{counts_none}
use Rattle.bus_tuples.proofs.TimesLaws.{right_few}
use Rattle.bus_tuples.proofs.Pulling.{pulls_one, pulls_stay}
use Rattle.bus_tuples.proofs.Pushing.{pushes_one, pushes_none}

-- the rows that are passed pull nothing
pub next_low : (ext : List ℕ) (k : ℕ) → k ≤ next_pull ext k
unfolding next_pull
next_low ext k = (is_first (pulls_none ext) k (length ext / 120 - k)).low

pub next_passes : (ext : List ℕ) (k : ℕ) → PullsNothing ext k (next_pull ext k)
unfolding next_pull
next_passes ext k σ =
    let found = is_first (pulls_none ext) k (length ext / 120 - k) in
    pulls_stay ext σ k (first (pulls_none ext) k (length ext / 120 - k)) found.low
    (λ j from below.
    let row = ext_at ext (120 * j) in
    let none : pull_count row ≡ 0 = eqb-true (pull_count row) 0 (found.before j from below) in
    sym (right_few row (omega arith)) ∙ none)

module _ (ext : List ℕ) (k : ℕ) (τ : Tuple) where
  -- by the test of the next pull
  after_is : (at : ℕ) → at ≡ next_pull ext k → (b : Bool) → pulls_just ext τ at ≡ b → cond b (at + 1) (length ext / 120 + 1) ≡ after_pull ext k τ
  unfolding after_pull
  after_is at is b e = λ i. cond ((sym e ∙ ap (pulls_just ext τ) is) i) (is i + 1) (length ext / 120 + 1)

  pub after_none : (at : ℕ) → at ≡ next_pull ext k → length ext / 120 ≤ at → length ext / 120 + 1 ≡ after_pull ext k τ
  after_none at is past = after_is at is false (rw (le-ltb at (length ext / 120) past))

  pub after_some : (at times : ℕ) (alike b : Bool) → at ≡ next_pull ext k → at < length ext / 120
      → times ≡ pull_count (ext_at ext (120 * at)) → alike ≡ same_tuple (pulled (ext_at ext (120 * at))) τ → (eqb times 1 && alike) ≡ b
      → cond b (at + 1) (length ext / 120 + 1) ≡ after_pull ext k τ
  after_some at times alike b is below times-is alike_is e =
      after_is at is b (rw (lt-ltb at (length ext / 120) below) ((λ i. eqb (sym times-is i) 1 && sym alike_is i) ∙ e))

  -- the row after it
  pub after_once : after_pull ext k τ ≤ length ext / 120 → (k ≤ length ext / 120) × PullsOnce ext τ k (after_pull ext k τ)
  after_once h = go (pulls_just ext τ (next_pull ext k)) refl
    where
      at : ℕ
      at = next_pull ext k

      go : (b : Bool) → pulls_just ext τ at ≡ b → (k ≤ length ext / 120) × PullsOnce ext τ k (after_pull ext k τ)
      go false e = absurd (omega (arith, after_is at refl false e))
      go true e =
          let row = ext_at ext (120 * at) in
          let all = each (ltb at (length ext / 120)) (eqb (pull_count row) 1 ∷ same_tuple (pulled row) τ ∷ []) e in
          let once : pull_count row ≡ 1 = eqb-true (pull_count row) 1 all.1.0 in
          let below : at < length ext / 120 = ltb-true at (length ext / 120) all.0 in
          let after : at + 1 ≡ after_pull ext k τ = after_is at refl true e in (
            omega (arith, next_low ext k),
            λ σ. ap (pulled_to (tables [] ext) σ) (sym after)
                ∙ pulls_one ext τ σ at (sym (right_few row (omega arith)) ∙ once) (same_tuple_lem (pulled row) τ all.1.1)
                ∙ ap (λ n. n + cond (same_tuple τ σ) 1 0) (next_passes ext k σ),
          )

module _ (program exec ext : List ℕ) where
  -- one execution row more
  pub pulled_more : (r : ℕ) → pulled_by program exec ext (r + 1)
      ≡ after_row ext (pulled_by program exec ext r) (instruction_of (given program []) (tables exec []) r) (exec_at exec (32 * r))
  unfolding pulled_by
  pulled_more r = rw (add-one r)

  -- an execution row more that leaves the pulls within the table
  module _ (r k : ℕ) where
    abbrev i : Instruction
    i = instruction_of (given program []) (tables exec []) r

    abbrev x : Exec
    x = exec_at exec (32 * r)

    row_in_order : well_formed i ≡ true → (k ≤ length ext / 120 → InOrder program exec ext r k)
        → after_row ext k i x ≤ length ext / 120 → InOrder program exec ext (suc r) (after_row ext k i x)
    row_in_order fits before = go (opcode i 0 0 0) refl
      where
        go : (b : Bool) → opcode i 0 0 0 ≡ b → cond b (after_pull ext k (pushed i x)) k ≤ length ext / 120
            → InOrder program exec ext (suc r) (cond b (after_pull ext k (pushed i x)) k)
        go true e h σ =
            let once = after_once ext k (pushed i x) h in
            omega (arith, before once.0 σ, once.1 σ, ap (λ n. cond (same_tuple (pushed i x) σ) n 0) (pushes_one i fits e))
        go false e h σ = omega (arith, before h σ, counts_none (same_tuple (pushed i x) σ) (pushes i) (pushes_none i fits e))

  pub in_order : ((i : ℕ) → i < length program / 48 → well_formed (instruction_at program (48 * i)) ≡ true) → (r : ℕ)
      → ((s : ℕ) → s < r → (exec_at exec (32 * s)).pc < length program / 48)
      → pulled_by program exec ext r ≤ length ext / 120 → InOrder program exec ext r (pulled_by program exec ext r)
  unfolding pulled_by
  in_order formed zero inside h σ = refl
  in_order formed (suc r) inside h σ =
      row_in_order r (pulled_by program exec ext r) (formed (exec_at exec (32 * r)).pc (inside r (omega arith)))
      (in_order formed r (λ s b. inside s (omega arith))) h σ
