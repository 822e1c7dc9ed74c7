-- Only possible forms are counted: a well-formed instruction's form is possible, and so is the form of every row of an
-- accepted table.
-- Assumes nothing.
use mathlib.Core.Path.{◌≡◌, refl, sym, ap, ◌∙◌}
use mathlib.Core.Bool.{true, false, cond, ◌&&◌, ◌||◌, true≢false}
use Prim.Native.Nat.{ℕ, ◌+◌, ◌*◌, ◌/◌, ◌%◌, ◌≤◌, ◌<◌}
use native.Mathlib.Omega.{arith}
use lib.Dec.{eqb}
use borrow.Author.Tests.{eqb-true}
use Rattle.word.proofs.Tests.{by_test, by_order}
use Rattle.answer.specs.Answers.{Accepted}
use Rattle.form.specs.Form.{decode_of, well_formed, operand_of}
use Rattle.form.specs.declared.Instruction.{Instruction}
use Rattle.form.specs.declared.Kind.{Kind}
use Rattle.form.specs.declared.Kind.TheVariants.{Add, Mul, Deref, Jump, Extension}
use Rattle.form.specs.declared.Mode.{Mode}
use Rattle.form.specs.declared.Mode.TheVariants.{Immediate, Cell, Frame}
use Rattle.form.specs.declared.Form.{Form}
use Rattle.std.specs.Prelude.{Some}
use Rattle.form.proofs.Forms.{Flags, Words, formed_of, well}
use Rattle.rules.specs.Sizes.{Parts, given_of, tables_of}
use Rattle.rules.specs.Bus.{instruction_of}
use Rattle.rules.proofs.Totals.{total_zero}
use Rattle.judge_spec.specs.Judged.{judge_of}
use Rattle.judge_spec.proofs.AcceptedRows.{row_formed}
use Rattle.grid_spec.specs.Forms.{kind_number, counter, counter_of, counter_at, rows_of}
use Rattle.grid_spec.proofs.OneForm.{form_numbers, mode_back}
use Rattle.grid_spec.specs.Possible.{is_cell, is_frame, plain, possible, kind_at, mode_at, possible_at}

-- a kind is that of its number, as far as its forms go
kind_back : (kind : Kind) (a b c : Mode) → possible (kind_at (kind_number kind)) a b c ≡ possible kind a b c
kind_back Add a b c = refl
kind_back Mul a b c = refl
kind_back Deref a b c = refl
kind_back Jump a b c = refl
kind_back (Extension op be n) a b c = refl

-- a form's counter is possible where the form is
pub possible_counter : (kind : Kind) (a b c : Mode) → possible_at (counter kind a b c) ≡ possible kind a b c
possible_counter kind a b c =
    let (first, second, third, last) = form_numbers kind a b c in
    rw (first, second, third, last, mode_back a, mode_back b, mode_back c) (kind_back kind a b c)

-- an operand with no fp flag is plain, and one with no immediate's flag is no immediate
plain_mode : (flag word : ℕ) → plain (operand_of flag 0 word).mode ≡ true
plain_mode flag word = by_test (λ (m : Mode). plain m ≡ true) (eqb flag 1) (λ _. refl) (λ _. refl)

address_mode : (fp word : ℕ) → (let m = (operand_of 0 fp word).mode in is_cell m || is_frame m) ≡ true
address_mode fp word = by_test (λ (m : Mode). is_cell m || is_frame m ≡ true) (eqb fp 1) (λ _. refl) (λ _. refl)

-- the modes that an instruction's flags give
module _ (i : Instruction) where
  abbrev mode_a : Mode
  mode_a = (operand_of i.fa i.fpab i.a).mode

  abbrev mode_b : Mode
  mode_b = (operand_of i.fb i.fpab i.b).mode

  abbrev mode_c : Mode
  mode_c = (operand_of i.fc i.fpc i.c).mode

  -- with no fp flag A and B are plain
  both_plain : i.fpab ≡ 0 → plain mode_a && plain mode_b ≡ true
  both_plain e = rw (e, plain_mode i.fa i.a) (plain_mode i.fb i.b)

  -- a form is possible, by its kind
  kind_possible : (kind : Kind) → Flags i → Words i kind → possible kind mode_a mode_b mode_c ≡ true
  kind_possible Add flags (o, p) = both_plain p.fpab_is
  kind_possible Mul flags (o, p) = both_plain p.fpab_is
  kind_possible Deref flags (o, p, fa, fb) = rw (p.fpab_is, fa, fb)
  kind_possible Jump flags (o, p, fc) = rw (both_plain p.fpab_is, fc) (address_mode i.fpc i.c)
  kind_possible (Extension op be n) flags (o, e) =
      by_order i.fpab 1
      (λ h. rw (both_plain (omega arith)))
      (λ h.
      let framed : i.fpab ≡ 1 = omega (arith, flags.a) in
      let fa : i.fa ≡ 0 = omega (arith, flags.a) in
      let fb : i.fb ≡ 0 = omega (arith, flags.b) in
      rw (framed, fa, fb))

  -- so the form of an instruction is, and the counter of a well-formed one
  form_possible : (f : Form) → decode_of i ≡ Some f → possible f.kind f.a.mode f.b.mode f.c.mode ≡ true
  form_possible f e =
      let formed = formed_of i f e in
      rw (formed.a_is, formed.b_is, formed.c_is) (kind_possible f.kind formed.flags formed.words)

  pub formed_possible : well_formed i ≡ true → possible_at (counter_of (decode_of i)) ≡ true
  formed_possible fits =
      let (f, e) = well i fits in
      rw e (possible_counter f.kind f.a.mode f.b.mode f.c.mode ∙ form_possible f e)

module _ (q : Parts) (accepted : judge_of q ≡ Accepted) where
  -- the counter of each row of an accepted table is possible: its pc is in the program
  pub row_possible : (r : ℕ) → r < (tables_of q).height → possible_at (counter_at (given_of q) (tables_of q) r) ≡ true
  unfolding counter_at
  row_possible r h =
      formed_possible (instruction_of (given_of q) (tables_of q) r) (row_formed q accepted r h)

  -- a counter that isn't possible counts none of its rows
  pub rows_possible : (k : ℕ) → possible_at k ≡ false → (n : ℕ) → n ≤ (tables_of q).height → rows_of (given_of q) (tables_of q) k n ≡ 0
  rows_possible k not n h = total_zero _ n (λ r b. other r (omega arith))
    where
      other : (r : ℕ) → r < (tables_of q).height → cond {A = ℕ} (eqb (counter_at (given_of q) (tables_of q) r) k) 1 0 ≡ 0
      other r b =
          let row = counter_at (given_of q) (tables_of q) r in
          by_test (λ (x : ℕ). x ≡ 0) (eqb row k)
          (λ e. absurd (true≢false (sym (row_possible r b) ∙ ap possible_at (eqb-true row k e) ∙ not)))
          (λ _. refl)
