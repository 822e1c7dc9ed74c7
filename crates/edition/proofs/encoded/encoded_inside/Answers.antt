-- Each word is the one that its call read.
use Rattle.edition.proofs.Part.{encoded_made}
use Rattle.edition.proofs.encoded.encoded_inside.Goals as goal

pub returns : goal.returns
returns c =
    encoded_made c.args.s.now c.args.at
    c.word_inside.ensures
    c.word_inside-2.ensures
    c.word_inside-3.ensures
    c.word_inside-4.ensures
    c.word_inside-5.ensures
    c.word_inside-6.ensures
    c.word_inside-7.ensures
    c.word_inside-8.ensures
    c.word_inside-9.ensures
    c.word_inside-10.ensures
    c.word_inside-11.ensures
    c.word_inside-12.ensures
    c.word_inside-13.ensures
    c.word_inside-14.ensures
