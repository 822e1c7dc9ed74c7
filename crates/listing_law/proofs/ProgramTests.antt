-- A program's tests by themselves: what passes them is a well-formed program, and they come before what is behind them.
-- Assumes nothing.
use mathlib.Core.Path.{◌≡◌, refl, sym, ap, ◌∙◌}
use mathlib.Core.Bool.{Bool, true, false, cond, true≢false}
use mathlib.Core.List.{List, []}
use Prim.Native.Nat.{ℕ, ◌/◌, ◌<◌}
use lib.Dec.{ltb}
use lib.ListN.{length, get_or}
use Rattle.word.proofs.Tests.{by_test}
use Rattle.answer.specs.Verdicts.{accepted}
use Rattle.answer.specs.Answers.{Answer, Accepted, Size, Word, Instruction}
use Rattle.rules.specs.Sizes.{program_fits, given, tables}
use Rattle.judge_spec.specs.Judged.{first_word, first_malformed, instructions}
use Rattle.judge_spec.proofs.Cases.{tested, untouched}
use Rattle.judge_spec.proofs.StageReads.{words_read, instructions_read}
use Rattle.judge_spec.proofs.PartTests.{words_pass}
use Rattle.listing_spec.specs.Program.{program_tests, WellFormedProgram}

module _ (program : List ℕ) where
  pub passes : WellFormedProgram program → (then : Answer) → program_tests program then ≡ then
  passes w then =
      rw w.fits
      (words_pass 1 program (instructions (given program []) then) w.words
      ∙ untouched (instructions_read (given program []) (tables [] [])) (length program / 48) Instruction then w.formed)

  -- bytes that are accepted behind the tests are a well-formed program
  pub passed : ((k : ℕ) → get_or program k 0 < 256) → (then : Answer) → program_tests program then ≡ Accepted → WellFormedProgram program × (then ≡ Accepted)
  passed bytes then =
      by_test Holds (program_fits (length program))
      (λ fits.
      tested (words_read program) (length program / 4) (Word 1) (instructions (given program []) then) Holds
      (λ words.
      tested (instructions_read (given program []) (tables [] [])) (length program / 48) Instruction then Holds
      (λ formed e. (record { bytes = bytes; fits = fits; words = words; formed = formed }, e))
      (λ k h before bad. refused (Instruction k) refl))
      (λ k h before bad. refused (Word 1 k) refl))
      (λ bad. refused (Size 1 0) refl)
    where
      Holds : Answer → Type 0
      Holds a = a ≡ Accepted → WellFormedProgram program × (then ≡ Accepted)

      refused : (a : Answer) → accepted a ≡ false → Holds a
      refused a not e = absurd (true≢false (sym (ap accepted e) ∙ not))

-- a refusal by the tests is one whatever comes after them
first_refusal : (fits word malformed : Bool) (a b c then : Answer) → accepted (cond fits (cond word a (cond malformed b Accepted)) c) ≡ false
    → cond fits (cond word a (cond malformed b then)) c ≡ cond fits (cond word a (cond malformed b Accepted)) c
first_refusal false word malformed a b c then e = refl
first_refusal true true malformed a b c then e = refl
first_refusal true false true a b c then e = refl
first_refusal true false false a b c then e = absurd (true≢false e)

pub tests_first : (program : List ℕ) (then : Answer) → accepted (program_tests program Accepted) ≡ false → program_tests program then ≡ program_tests program Accepted
tests_first program then =
    first_refusal (program_fits (length program)) (ltb (first_word program) (length program / 4))
    (ltb (first_malformed (given program [])) (length program / 48)) (Word 1 (first_word program)) (Instruction (first_malformed (given program []))) (Size 1 0) then
