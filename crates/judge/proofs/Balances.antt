-- A bus on which every tuple is equal is accepted.
-- Assumes nothing.
use mathlib.Core.Path.{◌≡◌, sym, ◌∙◌}
use Rattle.rules.specs.Given.{Given, Tables}
use Rattle.rules.specs.Bus.{Tuple}
use Rattle.answer.specs.Answers.{Accepted, Bus}
use Rattle.judge_spec.specs.Judged.{pull_balanced, bus}
use Rattle.judge_spec.specs.Refusal.{Equal}
use Rattle.judge_spec.proofs.Stages.{stage}
use Rattle.judge_spec.proofs.Cases.{untouched}
use Rattle.judge_spec.proofs.StageReads.{push_read, pull_read}

-- where every tuple is pushed as often as it is pulled no row is refused
pub all_equal : (g : Given) (t : Tables) → ((σ : Tuple) → Equal g t σ) → Accepted ≡ bus g t
all_equal g t equal =
    let pull = stage (pull_balanced g t) t.ext_height (Bus 4) Accepted in
    sym
    (untouched (push_read g t) t.height (Bus 3) pull (λ r h _. equal _)
    ∙ untouched (pull_read g t) t.ext_height (Bus 4) Accepted (λ r h _. equal _))
