-- Each word is read where the row has it.
use Rattle.rows.specs.Rows.{ext_at}
use Rattle.bus_tuples.proofs.tuple.tuple_at.Goals as goal

pub returns : goal.returns
unfolding ext_at
returns c =
    rw (
      c.word_inside-3.ensures,
      c.word_inside-2.ensures,
      c.word_inside.ensures,
      c.pulled_data.ensures,
      c.word_inside-be.ensures,
      c.word_inside-len.ensures,
      c.word_inside-peq.ensures,
      c.word_inside-mul.ensures,
      c.word_inside-add.ensures,
    )
