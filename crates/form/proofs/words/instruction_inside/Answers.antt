-- Each word is the one that its call read.
use Rattle.form.proofs.Part.{instruction_made_lem}
use Rattle.form.proofs.words.instruction_inside.Goals as goal

pub returns : goal.returns
returns c = instruction_made_lem _ _ c.word_inside.ensures c.word_inside-2.ensures c.word_inside-3.ensures c.word_inside-4.ensures c.word_inside-5.ensures c.word_inside-6.ensures c.word_inside-7.ensures c.word_inside-8.ensures c.word_inside-9.ensures c.word_inside-10.ensures c.word_inside-11.ensures c.word_inside-12.ensures
