-- A walk over rows of so many words: it is at row r, no row before has a rule that fails, and a test tells whether
-- their words are below p.
-- Assumes nothing.
use mathlib.Core.Path.{◌≡◌, sym, ap, ◌∙◌}
use mathlib.Core.Bool.{Bool, true, false, true≢false, ◌&&◌}
use Rattle.std.proofs.Common.{Option, Some, None}
use Rattle.word.proofs.Tests.{by_order}
use mathlib.Core.List.{List}
use Prim.Native.Nat.{ℕ, ◌+◌, ◌*◌, ◌/◌, ◌≤◌, ◌<◌, zero-le}
use native.Mathlib.Nat.{mul-zero}
use native.Mathlib.Omega.{arith}
use lib.Dec.{eqb}
use lib.ListN.{length}
use borrow.Author.Tests.{eqb-true, eq-eqb, ne_eqb, ltb-true, lt-ltb, le-ltb}
use Rattle.form.specs.declared.Instruction.{Instruction}
use Rattle.rows.specs.declared.Exec.{Exec}
use Rattle.rules.specs.Given.{zero?}
use Rattle.rules.specs.Execution.{exec_rules}
use Rattle.rules.specs.Sizes.{given}
use Rattle.judge_spec.specs.First.{first, failing}
use Rattle.judge_spec.specs.Judged.{is_word}
use Rattle.judge_spec.proofs.Cases.{is_true}
use Rattle.judge_spec.proofs.FirstLaws.{first_bound, first_past}
use Rattle.judge_spec.proofs.RuleLaws.{failing_holds, exec_numbered}
use Rattle.inputs.specs.Words.{AllWords}
use Rattle.inputs.proofs.Formed.{seen_words}
use Rattle.inputs.proofs.Eights.{Tells, none_yet, joined, all_told}
use Rattle.inputs.proofs.Walks.{Walk, begins, goes_past, finds, finds_none, found_one, found_none}
use Rattle.judge_walks.specs.declared.Failing.{Failing}
use Rattle.judge_walks.specs.Walks.{Tested, first_failing_row}

module _ (failing : ℕ → ℕ) (n : ℕ) (bytes : List ℕ) (wide : ℕ) where
  pub record At (r : ℕ) (words : Bool) : Type 0 where
    pub rows : Walk (λ s. zero? (failing s)) n (first (λ s. zero? (failing s)) 0 n) r
    pub told : Tells (is_word bytes) words 0 (wide * r)

  pub at_first : At 0 true
  at_first = record { rows = begins _ n; told = rw (mul-zero wide) (none_yet (is_word bytes)) }

  module _ {r : ℕ} {words : Bool} (at : At r words) where
    pub row_passed : (b : Bool) → r < n → failing r ≡ 0 → Tells (is_word bytes) b (wide * r) (wide * r + wide) → At (r + 1) (words && b)
    row_passed b h e tells =
        let next : wide * (r + 1) ≡ wide * r + wide = omega arith in
        record {
          rows = goes_past at.rows h (eq-eqb (failing r) 0 e);
          told = rw next (joined (is_word bytes) words b 0 (wide * r) (wide * r) (wide * r + wide) zero-le (omega arith) (omega arith) at.told tells);
        }

    pub row_fails : (rule : ℕ) → r < n → rule ≡ failing r → (rule ≡ 0 → ⊥) → Tested failing n bytes (Some (record { row = r; rule = rule })) false
    row_fails rule h e bad =
        let fails = ne_eqb (failing r) 0 (λ z. bad (e ∙ z)) in
        record { found_is = rw (← finds at.rows h fails, lt-ltb r n h, e); words_is = found_one at.rows h fails _ }

    pub rows_end : n ≤ r → wide * n ≡ length bytes / 4 → Tested failing n bytes None words
    rows_end h whole =
        let last : n ≡ r = omega (arith, at.rows.within) in
        record {
          found_is = rw (← finds_none at.rows h, le-ltb r n h);
          words_is = all_told (is_word bytes) words (length bytes / 4) (rw (← last, whole) at at.told) ∙ found_none at.rows h _;
        }

    -- the row at which a walk stops is the first that fails, or their number
    pub stops_at : (rule : ℕ) → r < n → rule ≡ failing r → (rule ≡ 0 → ⊥) → r ≡ first_failing_row failing n
    stops_at rule h e bad = finds at.rows h (ne_eqb (failing r) 0 (λ z. bad (e ∙ z)))

    pub ends_at : n ≤ r → r ≡ first_failing_row failing n
    ends_at h = finds_none at.rows h

-- where a walk saw that all words are below p, they are
pub tested_words : {failing : ℕ → ℕ} {n : ℕ} {bytes : List ℕ} {found : Option Failing} {words : Bool} → Tested failing n bytes found words → words ≡ true → AllWords bytes
tested_words {failing} {n} {bytes} {found} {words} tested = seen_words (eqb (first_failing_row failing n) n) words bytes tested.words_is

-- what a walk that found no row leaves, and one that found one
abbrev row_there : Option Failing → Bool
row_there (Some f) = true
row_there None = false

abbrev row_of : Option Failing → Failing
row_of (Some f) = f
row_of None = record { row = 0; rule = 0 }

module _ {failing : ℕ → ℕ} {n : ℕ} {bytes : List ℕ} {words : Bool} where
  pub at_end : Tested failing n bytes None words → first_failing_row failing n ≡ n
  at_end tested =
      by_order (first_failing_row failing n) n
      (λ low. absurd (true≢false (ap row_there (sym (rw (lt-ltb _ _ low) at tested.found_is)))))
      (λ past. omega (arith, first_bound (λ s. zero? (failing s)) n))

  pub none_fails : Tested failing n bytes None words → (r : ℕ) → r < n → failing r ≡ 0
  none_fails tested r h = eqb-true (failing r) 0 (first_past (λ s. zero? (failing s)) n (omega (arith, at_end tested)) r h)

  module _ {f : Failing} (tested : Tested failing n bytes (Some f) words) where
    pub row_below : first_failing_row failing n < n
    row_below =
        by_order (first_failing_row failing n) n
        (λ low. low)
        (λ past. absurd (true≢false (ap row_there (rw (le-ltb _ _ past) at tested.found_is))))

    pub row_found : f ≡ record { row = first_failing_row failing n; rule = failing (first_failing_row failing n) }
    row_found = ap row_of (rw (lt-ltb _ _ row_below) at tested.found_is)

-- a row whose rules hold has a pc in the program
pub pc_inside : (program memory : List ℕ) (x y : Exec) (i : Instruction) → failing (exec_rules (given program memory) x y i) ≡ 0 → x.pc < length program / 48
unfolding exec_rules
pc_inside program memory x y i e =
    let g = given program memory in
    ltb-true x.pc (length program / 48) (is_true _ (failing_holds (exec_rules g x y i) (exec_numbered g x y i) e).0)
