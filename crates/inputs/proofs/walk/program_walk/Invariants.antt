-- Each instruction passed is well-formed, and the walk stops at the first that isn't; its twelve words are told of.
use mathlib.Core.List.{[]}
use Prim.Native.Nat.{◌/◌, ◌*◌}
use lib.ListN.{length}
use Rattle.form.specs.Form.{well_formed}
use Rattle.form.specs.Instruction.{instruction_at}
use Rattle.judge_spec.specs.Judged.{is_word, first_malformed}
use Rattle.rules.specs.Sizes.{given}
use Rattle.inputs.proofs.Eights.{Tells}
use Rattle.inputs.proofs.Walks.{Walk}
use Rattle.inputs.proofs.walk.program_walk.Given as goal

abbrev pub invariant-loop-i : goal.invariant-loop-i
invariant-loop-i l =
    Walk (λ j. well_formed (instruction_at l.program (48 * j))) (length l.program / 48) (first_malformed (given l.program [])) l.i
    × Tells (is_word l.program) l.words 0 (12 * l.i)
