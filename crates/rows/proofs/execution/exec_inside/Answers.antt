-- One test covers the row; each column is the word that its call read.
use Rattle.rows.proofs.Reading.{exec_made}
use Rattle.rows.proofs.execution.exec_inside.Goals as goal

pub returns : goal.returns
returns c =
    exec_made c.args.s.now c.args.at
    c.word_inside.ensures
    c.word_inside-2.ensures
    c.word_inside-3.ensures
    c.word_inside-4.ensures
    c.word_inside-5.ensures
    c.word_inside-6.ensures
    c.word_inside-7.ensures
    c.word_inside-8.ensures
