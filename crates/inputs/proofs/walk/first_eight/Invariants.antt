-- Each eight passed are words.
use Rattle.std.proofs.Common.{◌*◌, ◌/◌, length}
use Rattle.judge_spec.specs.Judged.{is_word, first_word}
use Rattle.inputs.proofs.Walks.{Walk}
use Rattle.inputs.proofs.walk.first_eight.Given as goal

abbrev pub invariant-loop-k : goal.invariant-loop-k
invariant-loop-k l = Walk (is_word l.bytes) (length l.bytes / 4) (first_word l.bytes) (8 * l.k)
