-- What the judge's answer is worth: it accepts exactly the tables that satisfy the constraints, and no other answer
-- than its own holds.
use mathlib.Core.Path.{◌≡◌, subst}
use mathlib.Core.Logic.{◌↔◌}
use Rattle.answer.specs.Answers.{Answer, Accepted}
use Rattle.answer.specs.Determined.{Determined, equation}
use Rattle.rules.specs.Sizes.{Parts}
use Rattle.rules.specs.Satisfies.{Satisfies}
use Rattle.judge_spec.specs.Judged.{judge_of}
use Rattle.judge_spec.specs.Refusal.{Says}
use Rattle.judge_spec.proofs.Justified.{justified}
use Rattle.judge_spec.proofs.Only.{only}

module _ (q : Parts) where
  pub says_exactly : (a : Answer) → (judge_of q ≡ a) ↔ Says q a
  says_exactly a = (λ e. subst (Says q) e (justified q), only q a)

  pub accepted_satisfies : judge_of q ≡ Accepted → Satisfies q
  unfolding Says
  accepted_satisfies = (says_exactly Accepted).0

  pub satisfies_accepted : Satisfies q → judge_of q ≡ Accepted
  unfolding Says
  satisfies_accepted = (says_exactly Accepted).1

  -- a promise to answer as the judge does admits one answer
  pub answer_determined : Determined (λ (r : Answer). r ≡ judge_of q)
  answer_determined = equation (judge_of q)
