-- Each word passed is below p, and the walk stops at the first that isn't.
use Rattle.std.proofs.Common.{◌/◌, length}
use Rattle.judge_spec.specs.Judged.{is_word, first_word}
use Rattle.inputs.proofs.Walks.{Walk}
use Rattle.inputs.proofs.walk.first_word.Given as goal

abbrev pub invariant-loop-i : goal.invariant-loop-i
invariant-loop-i l = Walk (is_word l.bytes) (length l.bytes / 4) (first_word l.bytes) l.i
