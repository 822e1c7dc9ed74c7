-- What is left to ask answers as all of them do.
use Rattle.std.proofs.Common.{◌≡◌, drop}
use Rattle.judge_lookups.specs.Numbered.{first_failing}
use Rattle.judge_lookups.proofs.first_failing.Given as goal

abbrev pub invariant-loop-rule : goal.invariant-loop-rule
invariant-loop-rule l = first_failing l.rules l.after ≡ first_failing (drop l.rule-index l.rules) l.after
