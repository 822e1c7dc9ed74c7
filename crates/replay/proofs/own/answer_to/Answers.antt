-- `own::answer_to` meets its contract: m is tested first.
use Rattle.std.proofs.Common.{rules}
use borrow.Author.Tests.{eq-eqb, ne_eqb}
use Rattle.replay.specs.Replay.{replay_of}
use Rattle.replay.proofs.own.answer_to.Goals as goal

pub returns-then-recipe-ne10 : goal.returns-then-recipe-ne10
unfolding replay_of
returns-then-recipe-ne10 c = rw (ne_eqb c.args.recipe.m 10 c.if-recipe-ne10.true)

pub returns : goal.returns
unfolding replay_of
returns c = rw (eq-eqb c.args.recipe.m 10 (search rules)) c.judged.ensures
