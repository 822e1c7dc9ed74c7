-- A buffer of another length is ANSWER's; else the six numbers are put.
use borrow.Author.Rules.{rules}
use lib.ListN.{length}
use borrow.Author.Tests.{eq-eqb, ne_eqb}
use Rattle.rows.proofs.Writing.{row_left}
use Rattle.reply.specs.Reply.{answer_bytes, returned}
use Rattle.reply.proofs.reply.Goals as goal

pub returns-then-buffer-ne24 : goal.returns-then-buffer-ne24
unfolding returned
returns-then-buffer-ne24 c =
    let buffer = c.args.buffer.now in
    let other = c.if-buffer-ne24.true in
    (rw (ne_eqb (length buffer) answer_bytes other, c.misfit.ensures), row_left buffer answer_bytes _ other)

pub returns : goal.returns
unfolding returned
returns c =
    let s = c.args in
    let six = c.six_numbers-six.ensures in
    (rw (eq-eqb (length s.buffer.now) answer_bytes c.if-buffer-ne24.false, six), rw six at c.put_numbers.ensures)
