-- `accepted` meets its contract: verdict 0.
use borrow.Author.Rules.{rules}
use mathlib.Core.Path.{ap}
use lib.Dec.{eqb}
use Rattle.answer.specs.declared.Numbers.{Numbers}
use Rattle.answer.proofs.accepted.Goals as goal

pub returns : goal.returns
returns c = ap (λ (n : Numbers). eqb n.verdict 0) c.six_numbers-numbers.ensures
