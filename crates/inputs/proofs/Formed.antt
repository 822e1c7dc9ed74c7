-- What a walk leaves, where it found no instruction that is malformed, or saw that all words are below p.
-- Assumes nothing.
use borrow.Author.Tests.{eqb-true}
use mathlib.Core.Path.{◌≡◌, sym, ◌∙◌}
use mathlib.Core.Bool.{Bool, true, ◌&&◌}
use mathlib.Core.List.{List, [], ◌∷◌}
use Prim.Native.Nat.{ℕ, ◌*◌, ◌/◌, ◌≤◌}
use lib.Dec.{eqb}
use lib.ListN.{length}
use Rattle.form.specs.Form.{well_formed}
use Rattle.form.specs.Instruction.{instruction_at}
use Rattle.word.proofs.Tests.{each}
use Rattle.rules.specs.Sizes.{given}
use Rattle.judge_spec.specs.Judged.{first_malformed}
use Rattle.judge_spec.proofs.FirstLaws.{first_past}
use Rattle.inputs.specs.Words.{AllWords, all_words, WellFormed, program_passes}

pub all_formed : (program : List ℕ) (m : ℕ) → m ≡ first_malformed (given program []) → length program / 48 ≤ m → WellFormed program
all_formed program m e past = first_past (λ i. well_formed (instruction_at program (48 * i))) (length program / 48) (rw e at past)

-- a walk that saw all words below p, and what else it saw
pub seen_words : (other words : Bool) (bytes : List ℕ) → words ≡ (other && all_words bytes) → words ≡ true → AllWords bytes
seen_words other words bytes e t = eqb-true _ _ (each other (all_words bytes ∷ []) (sym e ∙ t)).1

pub program_words : (program : List ℕ) (words : Bool) → words ≡ program_passes program → words ≡ true → AllWords program
program_words program words = seen_words (eqb (first_malformed (given program [])) (length program / 48)) words program
