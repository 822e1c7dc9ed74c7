-- By the promises of the two calls.
use Rattle.std.proofs.Common.{◌∙◌}
use Rattle.replay.specs.Replay.{judged_of}
use Rattle.replay.proofs.own.judged.Goals as goal

pub returns : goal.returns
unfolding judged_of
returns c =
    let built = c.build.ensures in
    c.judge.ensures ∙ rw (built.0, built.1, built.2, built.3)
