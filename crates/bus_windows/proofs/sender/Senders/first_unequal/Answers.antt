-- What is left of the search gives the whole answer, and each window leaves less.
use mathlib.Core.Path.{◌≡◌, ◌∙◌}
use native.Mathlib.Omega.{arith}
use Rattle.judge_spec.proofs.FirstLaws.{ends}
use Rattle.bus_windows.proofs.sender.Senders.first_unequal.Goals as goal

pub returns : goal.returns
returns c =
    let done : c.loop-j.j ≡ c.args.to = omega arith in
    c.loop-j.invariant.left ∙ ends _ _ _ c.loop-j-test.false ∙ done
