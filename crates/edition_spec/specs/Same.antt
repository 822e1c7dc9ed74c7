-- Document 02, M-102: what an accepted program and the bytes left by its translation have in common. fp is an element
-- of the field in both drafts (0.5.0, 3.1.2), so a number below p; pc may be any number here.
use Rattle.std.specs.Prelude.{◌≡◌, List, ℕ, ◌*◌, ◌<◌, T, length}
use Rattle.word.specs.Word.{IsWord}
use Rattle.form.specs.Form.{well_formed}
use Rattle.form.specs.Instruction.{instruction_at}
use Rattle.outcome.specs.Outcome.{State}
use Rattle.machine.specs.Step.{step}
use Rattle.machine.specs.Run.{after}
use Rattle.tables.specs.Machine.{machine_of}
use Rattle.rules.specs.Sizes.{program_fits}
use Rattle.rules.specs.Satisfies.{Words}
use Rattle.edition_machine.specs.OldStep.{old_step, old_after}
use Rattle.edition_machine.specs.Encoding.{old_machine_of}
use Rattle.edition_spec.specs.Translated.{old_count}

-- over any memory, from any state whose fp is a word, the two take the same step or are stuck by the same rule; over a
-- memory of words they come to the same after any number of steps
pub record SameRuns (old new memory : List ℕ) : Type 0 where
  pub same_step : (s : State) → IsWord s.fp → old_step (old_machine_of old memory) s ≡ step (machine_of new memory) s
  pub same_run : Words memory → (s : State) → IsWord s.fp → (r : ℕ)
      → old_after (old_machine_of old memory) s r ≡ after (machine_of new memory) s r

-- the new program is one that judge and tabler take: its length, its words, its instructions
pub record Usable (old new : List ℕ) : Type 0 where
  pub length_is : length new ≡ 48 * old_count old
  pub fits : T (program_fits (length new))
  pub words : Words new
  pub well_formed : (i : ℕ) → i < old_count old → T (well_formed (instruction_at new (48 * i)))
