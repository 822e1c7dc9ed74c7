-- One answer alone holds of the parts, the judge's: where the tests before passed the judge's answer is the next
-- test's, and that one refuses as said.
use mathlib.Core.Path.{◌≡◌, sym, ap, ◌∙◌, subst}
use mathlib.Core.Logic.{inl, inr}
use mathlib.Core.List.{List}
use Prim.Native.Nat.{ℕ, zero, suc, ◌<◌}
use native.Mathlib.Omega.{arith}
use lib.Dec.{T}
use Rattle.std.specs.Prelude.{Ok, Err}
use Rattle.answer.specs.declared.Refusal.TheVariants as refusal
use Rattle.answer.specs.Answers.{Answer, Accepted, Size, Word, Instruction, Start, Exec as ExecRefused, Extension, Bus, Label, Stuck, Room, Open, Buffer, Grid, Edition, Listing, Short, Host, ListShort}
use Rattle.rules.specs.Given.{Given, Tables, Rule}
use Rattle.rules.specs.Lookups.{Lookup, exec_lookups, ext_lookups, found_under}
use Rattle.rules.specs.Bus.{pulled}
use Rattle.rules.specs.Sizes.{Parts, given_of, tables_of}
use Rattle.rules.specs.Satisfies.{Words, Satisfies}
use Rattle.judge_spec.specs.First.{failing}
use Rattle.judge_spec.specs.Judged.{exec_rules_at, exec_failing, exec_refusal, ext_rules_at, ext_failing, ext_refusal, pushed_at, judge_of}
use Rattle.judge_spec.specs.Refusal.{FirstFailing, Stood, Equal, Pushes, part, part_fits, BadSize, BadWord, BadExec, BadExtension, BadPush, BadPull, PassedTwo, PassedThree, PassedFour, PassedFive, PassedSix, Says}
use Rattle.judge_spec.proofs.PartNumbers.{every}
use Rattle.judge_spec.proofs.Stages.{judge_pulls, judge_bus, judge_extension, judge_execution, judge_start, judge_program, judge_words}
use Rattle.judge_spec.proofs.RuleLaws.{first_failing}
use Rattle.judge_spec.proofs.Standing.{stood_is}
use Rattle.judge_spec.proofs.Cases.{untouched, refusing}
use Rattle.judge_spec.proofs.PartTests.{words_pass, word_at_lem, sizes_pass, size_refused}
use Rattle.judge_spec.proofs.StageReads.{instructions_read, exec_read, ext_read, push_read, pull_read, start_pass, start_fail}

module _ (q : Parts) where
  abbrev g : Given
  g = given_of q

  abbrev t : Tables
  t = tables_of q

  -- the judge's answer where the tests before a test passed
  sized : ((m : ℕ) → T (part_fits q m)) → judge_of q ≡ judge_words q
  unfolding judge_of
  sized = sizes_pass q (judge_words q)

  read : PassedTwo q → judge_of q ≡ judge_program q
  read x =
      sized x.sizes
      ∙ words_pass 1 q.program _ (x.words 1)
      ∙ words_pass 2 q.memory _ (x.words 2)
      ∙ words_pass 3 q.exec _ (x.words 3)
      ∙ words_pass 4 q.ext _ (x.words 4)

  formed : PassedThree q → judge_of q ≡ judge_start q
  formed x = read x.two ∙ untouched (instructions_read g t) g.count Instruction (judge_start q) x.instructions

  started : PassedFour q → judge_of q ≡ judge_execution q
  started x = formed x.three ∙ start_pass g t q.pc q.fp (judge_execution q) x.start_pc x.start_fp

  executed : PassedFive q → judge_of q ≡ judge_extension q
  executed x = started x.four ∙ untouched (exec_read g t) t.height (λ r. exec_refusal g t r (exec_failing g t r)) (judge_extension q) x.execution

  extended : PassedSix q → judge_of q ≡ judge_bus q
  extended x = executed x.five ∙ untouched (ext_read g t) t.ext_height (λ r. ext_refusal g t r (ext_failing g t r)) (judge_bus q) x.extension

  pushed_all : PassedSix q → ((r : ℕ) → r < t.height → Pushes g t r → Equal g t (pushed_at g t r)) → judge_of q ≡ judge_pulls q
  pushed_all x all = extended x ∙ untouched (push_read g t) t.height (Bus 3) (judge_pulls q) all

  push_refused : (r : ℕ) → BadPush q r → judge_of q ≡ Bus 3 r
  push_refused r x = extended x.six ∙ refusing (push_read g t) t.height (Bus 3) (judge_pulls q) r x.inside x.before (x.pushing, x.bad)

  pull_refused : (r : ℕ) → BadPull q r → judge_of q ≡ Bus 4 r
  pull_refused r x =
      pushed_all x.six x.pushes_equal
      ∙ refusing (pull_read g t) t.ext_height (Bus 4) Accepted r x.inside x.before (x.pulling, x.bad)

  -- the number that is named is that of the first rule that fails
  named : (rules : List Rule) (n : ℕ) → FirstFailing rules n → FirstFailing rules (failing rules)
  named rules n f = subst (FirstFailing rules) (sym (first_failing rules n f)) f

  -- and what is said of its lookup is what stood there
  named_so : (refusal : ℕ → ℕ → ℕ → Answer) (rules : List Rule) (ls : List Lookup) (n : ℕ) {x y : ℕ}
      → FirstFailing rules n → Stood g ls n x y
      → (let f = found_under g.size g.cell ls (failing rules) in refusal (failing rules) f.expected f.found ≡ refusal n x y)
  named_so refusal rules ls n f stood = rw (first_failing rules n f, stood_is g ls n stood)

  exec_refused : (r n expected found : ℕ) → BadExec q r n expected found → judge_of q ≡ ExecRefused r n expected found
  exec_refused r n expected found x =
      started x.four
      ∙ refusing (exec_read g t) t.height (λ r. exec_refusal g t r (exec_failing g t r)) (judge_extension q) r x.inside x.before (named _ n x.bad)
      ∙ named_so (ExecRefused r) (exec_rules_at g t r) (exec_lookups (t.exec r)) n x.bad x.stood

  ext_refused : (r n expected found : ℕ) → BadExtension q r n expected found → judge_of q ≡ Extension r n expected found
  ext_refused r n expected found x =
      executed x.five
      ∙ refusing (ext_read g t) t.ext_height (λ r. ext_refusal g t r (ext_failing g t r)) (judge_bus q) r x.inside x.before (named _ n x.bad)
      ∙ named_so (Extension r) (ext_rules_at g t r) (ext_lookups (t.ext r)) n x.bad x.stood

  badly_sized : (n place : ℕ) → BadSize q n place → judge_of q ≡ Size n 0
  unfolding judge_of
  badly_sized = size_refused q (judge_words q)

  word_refused : (n k : ℕ) → BadWord q n k → judge_words q ≡ Word n k
  word_refused zero k x = absurd (omega (arith, x.inside))
  word_refused (suc zero) k x = word_at_lem q 1 _ x
  word_refused (suc (suc zero)) k x = words_pass 1 q.program _ (x.parts_before 1 (omega arith)) ∙ word_at_lem q 2 _ x
  word_refused (suc (suc (suc zero))) k x =
      words_pass 1 q.program _ (x.parts_before 1 (omega arith))
      ∙ words_pass 2 q.memory _ (x.parts_before 2 (omega arith))
      ∙ word_at_lem q 3 _ x
  word_refused (suc (suc (suc (suc zero)))) k x =
      words_pass 1 q.program _ (x.parts_before 1 (omega arith))
      ∙ words_pass 2 q.memory _ (x.parts_before 2 (omega arith))
      ∙ words_pass 3 q.exec _ (x.parts_before 3 (omega arith))
      ∙ word_at_lem q 4 _ x
  word_refused (suc (suc (suc (suc (suc n))))) k x = absurd (omega (arith, x.inside))

  satisfied : Satisfies q → PassedSix q
  satisfied s =
      let sizes = every (λ m. T (part_fits q m)) tt s.program_size s.memory_size s.exec_size s.ext_size (λ m. tt) in
      let words =
      every (λ m. Words (part q m)) (λ k h. absurd (omega arith)) s.program_words s.memory_words s.exec_words s.ext_words
      (λ m k h. absurd (omega arith)) in
      let two : PassedTwo q = record { sizes = sizes; words = words } in
      let three : PassedThree q = record { two = two; instructions = s.instructions } in
      let four : PassedFour q = record { three = three; start_pc = s.start_pc; start_fp = s.start_fp } in
      record { five = record { four = four; execution = s.constraints.execution }; extension = s.constraints.extension }

  accepted : Satisfies q → judge_of q ≡ Accepted
  accepted s =
      pushed_all (satisfied s) (λ r h c. s.constraints.bus (pushed_at g t r))
      ∙ untouched (pull_read g t) t.ext_height (Bus 4) Accepted (λ r h c. s.constraints.bus (pulled (t.ext r)))

  pub only : (a : Answer) → Says q a → judge_of q ≡ a
  unfolding Says
  only (Ok o) x = accepted x
  only (Err (refusal.Size n place)) x = badly_sized n place x ∙ ap (Size n) (sym x.unnamed)
  only (Err (refusal.Word n k)) x = sized x.sizes ∙ word_refused n k x
  only (Err (refusal.Instruction i)) x = read x.two ∙ refusing (instructions_read g t) g.count Instruction (judge_start q) i x.inside x.before x.bad
  only (Err refusal.Start) x = formed x.three ∙ start_fail g t q.pc q.fp (judge_execution q) x.bad
  only (Err (refusal.Exec r n expected found)) x = exec_refused r n expected found x
  only (Err (refusal.Extension r n expected found)) x = ext_refused r n expected found x
  only (Err (refusal.Bus n r)) (inl x) = push_refused r x.1 ∙ ap (λ (m : ℕ). Bus m r) (sym x.0)
  only (Err (refusal.Bus n r)) (inr x) = pull_refused r x.1 ∙ ap (λ (m : ℕ). Bus m r) (sym x.0)
  only (Err (refusal.Label place)) x = absurd x
  only (Err (refusal.Stuck r n)) x = absurd x
  only (Err (refusal.Room r)) x = absurd x
  only (Err (refusal.Open r)) x = absurd x
  only (Err refusal.Buffer) x = absurd x
  only (Err refusal.Grid) x = absurd x
  only (Err (refusal.Edition place)) x = absurd x
  only (Err (refusal.Listing place)) x = absurd x
  only (Err (refusal.Short place)) x = absurd x
  only (Err refusal.Host) x = absurd x
  only (Err (refusal.ListShort place)) x = absurd x
