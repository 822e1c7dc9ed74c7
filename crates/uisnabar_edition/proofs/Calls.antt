-- What a driver in C may rely on after a call: 0 returned, and the bytes left are the program's translation; any other
-- number, and they are as they were.
-- Assumes nothing.
use mathlib.Core.Path.{◌≡◌}
use mathlib.Core.Bool.{true}
use mathlib.Core.List.{List}
use Prim.Native.Nat.{ℕ}
use native.Mathlib.Omega.{arith}
use lib.Dec.{eqb}
use lib.ListN.{length}
use borrow.Author.Tests.{ne_eqb}
use Rattle.word.proofs.Tests.{cases}
use Rattle.answer.specs.Answers.{Accepted}
use Rattle.answer.proofs.Named.{verdict_zero}
use Rattle.reply.specs.Reply.{answer_bytes, verdict_of, returned}
use Rattle.edition_spec.specs.Translated.{program_left}
use Rattle.edition_spec.specs.Same.{SameRuns, Usable}
use Rattle.edition_spec.proofs.Same.{same, usable, refusal_keeps}
use Rattle.uisnabar_edition.specs.TranslateCall.{translate_told, translate_returned, translate_program_left}

module _ (old program answer : List ℕ) where
  module _ (zero : translate_returned old program answer ≡ 0) where
    -- ANSWER is 13, so the answer buffer has its 24 bytes
    whole : eqb (length answer) answer_bytes ≡ true
    unfolding returned
    whole = cases (eqb (length answer) answer_bytes) (λ t. t) (λ f. absurd (omega (arith, rw f at zero)))

    told : translate_told old program answer ≡ Accepted
    unfolding returned
    told = verdict_zero (translate_told old program answer) (rw whole at zero)

    left : translate_program_left old program answer ≡ program_left old program
    unfolding translate_program_left
    left = rw whole

    pub call_same : (memory : List ℕ) → SameRuns old (translate_program_left old program answer) memory
    call_same memory = rw left (same old program told memory)

    pub call_usable : Usable old (translate_program_left old program answer)
    call_usable = rw left (usable old program told)

  pub call_keeps : (translate_returned old program answer ≡ 0 → ⊥) → translate_program_left old program answer ≡ program
  unfolding translate_program_left returned
  call_keeps not =
      cases (eqb (length answer) answer_bytes)
      (λ t. rw t (refusal_keeps old program (ne_eqb (verdict_of (translate_told old program answer)) 0 (λ e. not (rw t e)))))
      (λ f. rw f)
