-- With nothing public the two joined are the second.
use mathlib.Core.Path.{◌∙◌}
use Rattle.judge_ext.proofs.QuickExt.{none_public}
use Rattle.judge_ext.proofs.ext_quick.lookups_hold.Goals as goal

pub returns-then-memory-eq0 : goal.returns-then-memory-eq0
returns-then-memory-eq0 c e after =
    let m = c.args.memory in
    rw (c.whole.ensures ∙ none_public m.public.now m.rest.now c.if-memory-eq0.true) at (c.held.ensures e after)
