-- Each possible form is reached by an accepted table: one computed test of all the programs, and demand 3's converse.
-- Assumes nothing.
use mathlib.Core.Path.{◌≡◌, refl, ap, ◌∙◌}
use mathlib.Core.Bool.{Bool, true, false, cond, ◌&&◌, false≢true}
use mathlib.Core.List.{List, [], ◌∷◌}
use Prim.Native.Nat.{ℕ, zero, suc, ◌+◌, ◌*◌, ◌≤◌, ◌<◌}
use native.Mathlib.Omega.{arith}
use lib.Dec.{lit<, ltb, leb, eqb}
use lib.ListN.{length, get_or, replicate}
use borrow.Author.Tests.{eqb-true, eq-eqb, leb-true, ltb-true}
use Rattle.word.specs.Word.{p, ◌+ₚ◌, ◌*ₚ◌}
use Rattle.word.specs.Element.{◌+ₑ◌}
use Rattle.word.proofs.Tests.{Each, each, alls, from_true}
use Rattle.answer.specs.Answers.{Accepted}
use Rattle.form.specs.Data.{read_data}
use Rattle.form.specs.Form.{decode_of, well_formed}
use Rattle.form.specs.Instruction.{instruction_at}
use Rattle.rows.specs.Rows.{bytes_of_words}
use Rattle.machine.specs.Machine.{Machine, State}
use Rattle.machine.specs.Step.{Outcome, goes, stuck, step}
use Rattle.machine.specs.Run.{StayingRun}
use Rattle.rules.specs.Given.{Given, Tables}
use Rattle.rules.specs.Sizes.{Parts, word_of, given_of, tables_of}
use Rattle.rules.proofs.Totals.{at_least}
use Rattle.judge_spec.specs.First.{first}
use Rattle.judge_spec.specs.Judged.{judge_of}
use Rattle.judge_spec.proofs.FirstLaws.{first_none}
use Rattle.tables.specs.Groups.{length_at, filled}
use Rattle.run.specs.Runs.{machine, Permitted, LegalRun, Spare, WrittenAs, with_tables, written_exec, written_ext}
use Rattle.run.proofs.Converse.{converse}
use Rattle.grid_spec.specs.Forms.{counter_of, counter_at, rows_of}
use Rattle.grid_spec.specs.Possible.{possible_at}
use Rattle.grid_fifty.specs.Reaching.{program_for, zeros, reaching, state_for}

-- a step comes to instruction 1, in frame 0
abbrev comes_to1 : Outcome → Bool
comes_to1 (goes s) = eqb s.pc 1 && eqb s.fp 0
comes_to1 (stuck rule) = false

-- a test passes at all numbers below n
abbrev every : (ℕ → Bool) → ℕ → Bool
every passes n = eqb (first passes 0 n) n

-- what is computed of counter k's program: its words and instructions, its form, its two steps, and the rows they fill
abbrev tests : ℕ → List Bool
tests k =
    eqb (length (program_for k)) 96
    ∷ every (λ j. ltb (word_of (program_for k) j) p) 24
    ∷ every (λ j. well_formed (instruction_at (program_for k) (48 * j))) 2
    ∷ eqb (counter_of (decode_of (instruction_at (program_for k) 0))) k
    ∷ comes_to1 (step (machine (reaching k)) (state_for 0))
    ∷ comes_to1 (step (machine (reaching k)) (state_for 1))
    ∷ leb (length_at (machine (reaching k)) (state_for 0)) 1
    ∷ eqb (length_at (machine (reaching k)) (state_for 1)) 0
    ∷ []

-- all of it holds of every possible counter
computed : first (λ k. cond (possible_at k) (alls true (tests k)) true) 0 135 ≡ 135
unfolding first program_for bytes_of_words instruction_at decode_of read_data step ◌+ₚ◌ ◌*ₚ◌ ◌+ₑ◌
computed = refl

-- what the two tests say
at_every : (passes : ℕ → Bool) (n : ℕ) → every passes n ≡ true → (j : ℕ) → j < n → passes j ≡ true
at_every passes n e = (first_none passes n).0 (eqb-true _ _ e)

comes_to_1 : (o : Outcome) → comes_to1 o ≡ true → o ≡ goes (state_for 1)
comes_to_1 (goes s) e =
    let (pc, fp) = each (eqb s.pc 1) (eqb s.fp 0 ∷ []) e in
    λ i. goes (record { pc = eqb-true s.pc 1 pc i; fp = eqb-true s.fp 0 fp i })
comes_to_1 (stuck rule) e = absurd (false≢true e)

-- a byte of zeros, and a cell, is 0
zero_byte : (n i : ℕ) → get_or {A = ℕ} (replicate n 0) i 0 ≡ 0
zero_byte zero i = refl
zero_byte (suc n) zero = refl
zero_byte (suc n) (suc i) = zero_byte n i

zero_cell : (j : ℕ) → word_of zeros j ≡ 0
zero_cell j = simp (zero_byte 1024)

-- two steps make the run, and only the first fills a row
module _ (m : Machine) where
  run_of : step m (state_for 0) ≡ goes (state_for 1) → step m (state_for 1) ≡ goes (state_for 1) → StayingRun m (state_for 0) 255 state_for
  run_of first_Goes second-stays = record { begins = refl; steps = λ r h. steps r; stays = second-stays }
    where
      steps : (r : ℕ) → step m (state_for r) ≡ goes (state_for (suc r))
      steps zero = first_Goes
      steps (suc r) = second-stays

  filled_of : length_at m (state_for 0) ≤ 1 → length_at m (state_for 1) ≡ 0 → (n : ℕ) → filled m state_for (suc n) ≤ 1
  unfolding filled
  filled_of one none zero = omega arith
  filled_of one none (suc n) = omega (arith, filled_of one none n)

-- a row of counter k's form is counted
row_counts : (g : Given) (t : Tables) (k n r : ℕ) → r < n → counter_at g t r ≡ k → 1 ≤ rows_of g t k n
row_counts g t k n r h e = rw (eq-eqb (counter_at g t r) k e) at (at_least (λ r. cond (eqb (counter_at g t r) k) 1 0) n r h)

-- counter k's program is permitted, its run is legal and leaves a row spare, so it is written as accepted tables
module _ (k : ℕ) (small : k < 135) (able : possible_at k ≡ true) where
  passed : Each true (tests k)
  passed = each true (tests k) (rw able at ((first_none _ 135).0 computed k small))

  permitted : Permitted (reaching k)
  permitted =
      let (_, (long, (words, (formed, rest)))) = passed in
      let length_is = eqb-true (length (program_for k)) 96 long in
      record {
        program_size = rw length_is tt;
        memory_size = tt;
        program_words = λ j h. ltb-true _ _ (at_every _ 24 words j (rw length_is at h));
        memory_words = λ j h. rw (zero_cell j) (lit< tt);
        instructions = λ j h. from_true _ (at_every _ 2 formed j (rw length_is at h));
        fp_word = lit< tt;
      }

  legal : LegalRun (reaching k) 256 state_for
  legal =
      let (_, (_, (_, (_, (_, (goes_on, (stays, rest))))))) = passed in
      record { permitted = tt; run = run_of (machine (reaching k)) (comes_to_1 _ goes_on) (comes_to_1 _ stays) }

  spare : Spare (reaching k) 256 256 state_for
  spare =
      let (_, (_, (_, (_, (_, (_, (_, (one, none)))))))) = passed in
      record { permitted = tt; room = omega (arith, filled_of (machine (reaching k)) (leb-true _ _ one) (eqb-true _ _ none) 255) }

  abbrev parts : Parts
  parts = with_tables (reaching k) (written_exec (reaching k) 256 state_for) (written_ext (reaching k) 256 256 state_for)

  written : WrittenAs (reaching k) 256 256 state_for parts.exec parts.ext
  written = converse (reaching k) permitted 256 256 state_for legal spare

  -- its first row is of counter k's form
  first_row : counter_at (given_of parts) (tables_of parts) 0 ≡ k
  unfolding counter_at
  first_row =
      let (_, (_, (_, (_, (own, rest))))) = passed in
      let starts : ((tables_of parts).exec 0).pc ≡ 0 = ap (λ (s : State). s.pc) (written.states 0 (lit< tt)) in
      ap (λ (pc : ℕ). counter_of (decode_of (instruction_at (program_for k) (48 * pc)))) starts ∙ eqb-true _ _ own

  -- a possible form is reached
  pub reached : (q : Parts) × (judge_of q ≡ Accepted) × (rows_of (given_of q) (tables_of q) k (tables_of q).height ≡ 0 → ⊥)
  reached =
      let one = row_counts (given_of parts) (tables_of parts) k (tables_of parts).height 0 (omega (arith, written.rows)) first_row in
      (parts, written.accepted, λ none. omega arith)
