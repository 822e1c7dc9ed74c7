-- Each word read is that of the part that was handed back.
use borrow.Author.Tests.{le-leb, lt-leb}
use lib.ListN.{length}
use Rattle.judge_lookups.proofs.lookup.five_held.Goals as goal

pub returns-then-bytes-lt20 : goal.returns-then-bytes-lt20
returns-then-bytes-lt20 c = rw (← c.cells-bytes.ensures, lt-leb 20 (length c.cells-bytes.result.now) c.if-bytes-lt20.true)

pub returns : goal.returns
returns c =
    let lent = c in
    rw (
      c.word_inside-5.ensures,
      c.word_inside-4.ensures,
      c.word_inside-3.ensures,
      c.word_inside-2.ensures,
      c.word_inside.ensures,
      ← lent.cells-bytes.ensures,
      le-leb 20 (length lent.cells-bytes.result.now) c.if-bytes-lt20.false,
    )
