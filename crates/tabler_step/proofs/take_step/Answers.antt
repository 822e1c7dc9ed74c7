-- Each return is by the first operand that is not legal, in STUCK's order.
use mathlib.Core.Path.{◌≡◌, refl}
use borrow.Author.Rules.{rules}
use Rattle.std.specs.Prelude.{Err}
use Rattle.tabler_step.specs.declared.Halt.TheVariants.{Stuck}
use Rattle.tabler_step.proofs.Rooms.{all_legal, halts}
use Rattle.tabler_step.proofs.take_step.Goals as goal

pub returns-in_err-ask : goal.returns-in_err-ask
returns-in_err-ask c =
    let out : c.from_residual.result ≡ Err (Stuck 2) = search rules in
    rw c.in_err-ask.ensures.err.0 (halts 2 refl out _ _ _ _)

pub returns-in_err-ask-2 : goal.returns-in_err-ask-2
returns-in_err-ask-2 c =
    let out : c.from_residual-in_err-ask-2.result ≡ Err (Stuck 3) = search rules in
    rw (c.in_ok-ask.ensures.ok, c.in_err-ask-2.ensures.err.0) (halts 3 refl out _ _ _ _)

pub returns-in_err-ask-3 : goal.returns-in_err-ask-3
returns-in_err-ask-3 c =
    let out : c.from_residual-in_err-ask-3.result ≡ Err (Stuck 4) = search rules in
    rw (c.in_ok-ask.ensures.ok, c.in_ok-ask-2.ensures.ok, c.in_err-ask-3.ensures.err.0) (halts 4 refl out _ _ _ _)

pub returns : goal.returns
returns c =
    all_legal c.in_ok-ask.ensures.ok c.in_ok-ask-2.ensures.ok c.in_ok-ask-3.ensures.ok _ _ _ _ _ c.perform.ensures
