-- The writer's five answers, each with the text at return, and what a length that fits tells.
-- Assumes nothing.
use mathlib.Core.Path.{◌≡◌, refl, ap, ◌∙◌}
use mathlib.Core.Bool.{true, false}
use mathlib.Core.List.{List, [], ◌∷◌}
use Prim.Native.Nat.{ℕ, ◌/◌, ◌%◌, ◌^◌, ◌≤◌, ◌<◌}
use lib.Dec.{eqb, leb}
use lib.ListN.{length}
use borrow.Author.Tests.{eqb-true, leb-true, lt-ltb, le-ltb, le-leb, lt-leb}
use Rattle.word.proofs.Tests.{each}
use Rattle.rules.specs.Sizes.{program_fits, given}
use Rattle.answer.specs.Answers.{Answer, Accepted, Size, Word, Instruction, Short}
use Rattle.judge_spec.specs.Judged.{first_word, first_malformed}
use Rattle.listing_spec.specs.Listing.{listing_of}
use Rattle.listing_spec.specs.Writing.{Transcribed, list_answer, transcribed, transcribed_in, listed, listed_in}

-- nothing is written
abbrev pub nothing : Answer → Transcribed
nothing a = record { answer = a; written = 0 }

module _ (program text : List ℕ) where
  -- what is returned and the text are what the promise says
  abbrev pub Kept : Transcribed → List ℕ → Type 0
  Kept r after = (r ≡ listed program text) × (after ≡ listed_in program text)

  -- of what is returned the answer and the number
  pub kept_parts : {r : Transcribed} {after : List ℕ} → Kept r after
      → (r.answer ≡ (listed program text).answer) × (r.written ≡ (listed program text).written) × (after ≡ listed_in program text)
  kept_parts k = (ap (λ (t : Transcribed). t.answer) k.0, ap (λ (t : Transcribed). t.written) k.0, k.1)

  kept : {a : Answer} → a ≡ list_answer program (length text) → {after : List ℕ} → after ≡ transcribed_in a (listing_of program) text
      → Kept (transcribed a (listing_of program)) after
  kept said left =
      (ap (λ (a : Answer). transcribed a (listing_of program)) said, left ∙ ap (λ (a : Answer). transcribed_in a (listing_of program) text) said)

  pub unfit : program_fits (length program) ≡ false → Kept (nothing (Size 1 0)) text
  unfolding list_answer
  unfit h = kept {a = Size 1 0} (rw h) refl

  module _ (fit : program_fits (length program) ≡ true) where
    -- so each place fits in 32 bits
    pub whole : length program % 48 ≡ 0
    whole = eqb-true _ 0 (each (eqb (length program % 48) 0) (leb 1 (length program / 48) ∷ leb (length program / 48) (2 ^ 20) ∷ []) fit).0

    pub few : length program / 48 ≤ 2 ^ 20
    few = leb-true _ (2 ^ 20) (each (eqb (length program % 48) 0) (leb 1 (length program / 48) ∷ leb (length program / 48) (2 ^ 20) ∷ []) fit).1.1

    module _ (word : ℕ) (first : word ≡ first_word program) where
      pub word_above : word < length program / 4 → Kept (nothing (Word 1 word)) text
      unfolding list_answer
      word_above h = kept {a = Word 1 word} (rw (fit, ← first, lt-ltb word (length program / 4) h)) refl

      module _ (below : length program / 4 ≤ word) (at : ℕ) (found : at ≡ first_malformed (given program [])) where
        pub malformed : at < length program / 48 → Kept (nothing (Instruction at)) text
        unfolding list_answer
        malformed h = kept {a = Instruction at} (rw (fit, ← first, le-ltb word (length program / 4) below, ← found, lt-ltb at (length program / 48) h)) refl

        module _ (formed : length program / 48 ≤ at) where
          pub short : length text < length (listing_of program) → Kept (nothing (Short (length (listing_of program)))) text
          unfolding list_answer
          short h =
              kept {a = Short (length (listing_of program))}
              (rw (fit, ← first, le-ltb word (length program / 4) below, ← found, le-ltb at (length program / 48) formed, lt-leb (length (listing_of program)) (length text) h))
              refl

          pub enough : length (listing_of program) ≤ length text → {after : List ℕ} → after ≡ transcribed_in Accepted (listing_of program) text
              → Kept (transcribed Accepted (listing_of program)) after
          unfolding list_answer
          enough h =
              kept {a = Accepted}
              (rw (fit, ← first, le-ltb word (length program / 4) below, ← found, le-ltb at (length program / 48) formed, le-leb (length (listing_of program)) (length text) h))
