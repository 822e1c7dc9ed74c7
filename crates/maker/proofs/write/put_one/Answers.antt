-- Each buffer's bytes are what `put_words` makes of the words of its call.
use mathlib.Core.Path.{◌∙◌}
use Rattle.maker.proofs.Filling.{program_lent, memory_lent}
use Rattle.maker.proofs.write.put_one.Goals as goal

pub put_words-requires : goal.put_words-requires
put_words-requires c =
    let s = c in
    program_lent s.args.program.now s.args.i s.requires.3 ∙ rw c.made_words-words.ensures

pub put_words-requires-2 : goal.put_words-requires-2
put_words-requires-2 c =
    let s = c in
    memory_lent s.args.memory.now s.args.i s.requires.4 ∙ rw c.slot_words-filled.ensures

pub returns : goal.returns
returns c = (
  rw (c.put_words.ensures, c.made_words-words.ensures),
  rw (c.put_words-2.ensures, c.slot_words-filled.ensures),
)

pub shape_of-program : goal.shape_of-program
shape_of-program c = c.program-1.given.1

pub shape_of-memory : goal.shape_of-memory
shape_of-memory c = c.memory-1.given.1
