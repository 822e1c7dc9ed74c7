-- The number by its eight bytes, the answer by the reply.
use mathlib.Core.Path.{◌∙◌}
use borrow.Author.Rules.{rules}
use borrow.Author.Tests.{eq-eqb}
use lib.ListN.{length}
use Rattle.reply.specs.Reply.{answer_bytes, returned}
use Rattle.reply.proofs.Telling.{eight}
use Rattle.reply.proofs.told.tell.Goals as goal

pub returns : goal.returns
unfolding returned
returns c =
    let s = c in
    let said = c.reply.ensures in (
      rw (eq-eqb (length s.args.answer.now) answer_bytes s.requires.1) at said.0,
      c.put_long.ensures ∙ eight s.args.number.now s.args.x s.requires.0,
      said.1,
    )
