-- What each test of the judge says, where it passes and where it fails: of words, instructions, rows with rules, rows
-- with tuples, and the start.
use mathlib.Core.Path.{◌≡◌, refl}
use mathlib.Core.Bool.{Bool, true, false, ◌&&◌, ◌||◌, true≢false}
use mathlib.Core.List.{List}
use Prim.Native.Nat.{ℕ, ◌≤◌}
use lib.Dec.{T, eqb, eqb→eq}
use borrow.Author.Tests.{ltb-true, ltb-false, lt-ltb, le-ltb, eqb-true, eqb-false, eq-eqb, ne_eqb}
use Rattle.word.specs.Word.{p, IsWord}
use Rattle.form.specs.Form.{well_formed}
use Rattle.answer.specs.Answers.{Answer, Start}
use Rattle.rules.specs.Given.{Given, Tables, Rule, zero?}
use Rattle.rules.specs.Bus.{Tuple, pushes, pulled, pulls, instruction_of, balanced}
use Rattle.rules.specs.Sizes.{word_of}
use Rattle.rules.specs.Satisfies.{All}
use Rattle.judge_spec.specs.First.{failing}
use Rattle.judge_spec.specs.Judged.{is_word, starts_at, exec_rules_at, exec_failing, ext_rules_at, ext_failing, pushed_at, push_balanced, pull_balanced}
use Rattle.judge_spec.specs.Refusal.{FirstFailing, Equal, Pushes, Pulls}
use Rattle.judge_spec.proofs.RuleLaws.{Numbered, exec_numbered, ext_numbered, holds_failing, failing_holds, failing_first, first_nonzero}
use Rattle.judge_spec.proofs.BusLaws.{row_equal, row_unequal, row_test, row_fails}
use Rattle.judge_spec.proofs.Cases.{is_true, from_true, both, chosen, Reads}

pub words_read : (bytes : List ℕ) → Reads (is_word bytes) (λ k. IsWord (word_of bytes k)) (λ k. p ≤ word_of bytes k)
words_read bytes =
    record {
      ok = λ k. (ltb-true (word_of bytes k) p, lt-ltb (word_of bytes k) p);
      bad = λ k. (ltb-false (word_of bytes k) p, le-ltb (word_of bytes k) p);
    }

-- rows whose rules are tested in turn
rows_read : (rules : ℕ → List Rule) → ((r : ℕ) → Numbered (rules r))
    → Reads (λ r. zero? (failing (rules r))) (λ r. All (rules r)) (λ r. FirstFailing (rules r) (failing (rules r)))
rows_read rules numbered =
    record {
      ok = λ r. (
        (λ e. failing_holds (rules r) (numbered r) (eqb-true (failing (rules r)) 0 e)),
        λ all. eq-eqb (failing (rules r)) 0 (holds_failing (rules r) all),
      );
      bad = λ r. (
        (λ e. failing_first (rules r) (eqb-false (failing (rules r)) 0 e)),
        λ f. ne_eqb (failing (rules r)) 0 (first_nonzero (rules r) (failing (rules r)) (numbered r) f),
      );
    }

module _ (g : Given) (t : Tables) where
  pub instructions_read : Reads (λ i. well_formed (g.instruction i)) (λ i. T (well_formed (g.instruction i))) (λ i. well_formed (g.instruction i) ≡ false)
  instructions_read =
      record {
        ok = λ i. (from_true (well_formed (g.instruction i)), is_true (well_formed (g.instruction i)));
        bad = λ i. ((λ e. e), λ e. e);
      }

  pub exec_read : Reads (λ r. zero? (exec_failing g t r)) (λ r. All (exec_rules_at g t r)) (λ r. FirstFailing (exec_rules_at g t r) (exec_failing g t r))
  exec_read = rows_read (exec_rules_at g t) (λ r. exec_numbered g _ _ _)

  pub ext_read : Reads (λ r. zero? (ext_failing g t r)) (λ r. All (ext_rules_at g t r)) (λ r. FirstFailing (ext_rules_at g t r) (ext_failing g t r))
  ext_read = rows_read (ext_rules_at g t) (λ r. ext_numbered g _ _)

  -- rows that count their tuples so many times
  tuples_read : (times : ℕ → ℕ) (tuple : ℕ → Tuple) → Reads (λ r. zero? (times r) || balanced g t (tuple r))
      (λ r. (times r ≡ 0 → ⊥) → Equal g t (tuple r)) (λ r. (times r ≡ 0 → ⊥) × (Equal g t (tuple r) → ⊥))
  tuples_read times tuple =
      record {
        ok = λ r. (row_equal g t (times r) (tuple r), row_test g t (times r) (tuple r));
        bad = λ r. (row_unequal g t (times r) (tuple r), λ b. row_fails g t (times r) (tuple r) b.0 b.1);
      }

  pub push_read : Reads (push_balanced g t) (λ r. Pushes g t r → Equal g t (pushed_at g t r)) (λ r. Pushes g t r × (Equal g t (pushed_at g t r) → ⊥))
  push_read = tuples_read (λ r. pushes (instruction_of g t r)) (pushed_at g t)

  pub pull_read : Reads (pull_balanced g t) (λ r. Pulls g t r → Equal g t (pulled (t.ext r))) (λ r. Pulls g t r × (Equal g t (pulled (t.ext r)) → ⊥))
  pull_read = tuples_read (λ r. pulls (t.ext r)) (λ r. pulled (t.ext r))

  module _ (pc fp : ℕ) (then : Answer) where
    pub start_cases : (Holds : Answer → Type 0)
        → ((t.exec 0).pc ≡ pc → (t.exec 0).fp ≡ fp → Holds then)
        → (((t.exec 0).pc ≡ pc → (t.exec 0).fp ≡ fp → ⊥) → Holds Start)
        → Holds (starts_at t pc fp then)
    start_cases Holds pass fail =
        chosen (eqb (t.exec 0).pc pc && eqb (t.exec 0).fp fp) then Start Holds
        (λ h.
        let e = both (eqb (t.exec 0).pc pc) (eqb (t.exec 0).fp fp) h in
        pass (eqb→eq (t.exec 0).pc pc e.0) (eqb→eq (t.exec 0).fp fp e.1))
        (λ bad. fail (λ a b. true≢false (rw (eq-eqb (t.exec 0).pc pc a, eq-eqb (t.exec 0).fp fp b) at bad)))

    pub start_pass : (t.exec 0).pc ≡ pc → (t.exec 0).fp ≡ fp → starts_at t pc fp then ≡ then
    start_pass a b = rw (eq-eqb (t.exec 0).pc pc a, eq-eqb (t.exec 0).fp fp b)

    pub start_fail : ((t.exec 0).pc ≡ pc → (t.exec 0).fp ≡ fp → ⊥) → starts_at t pc fp then ≡ Start
    start_fail bad = go (eqb (t.exec 0).pc pc) refl
      where
        go : (b : Bool) → eqb (t.exec 0).pc pc ≡ b → starts_at t pc fp then ≡ Start
        go true e = rw (e, ne_eqb (t.exec 0).fp fp (bad (eqb-true (t.exec 0).pc pc e)))
        go false e = rw e
