-- A buffer of another length stays; the words fill one of theirs.
use Rattle.std.proofs.Common.{◌∙◌, refl}
use Rattle.rows.proofs.Writing.{row_put, row_left}
use Rattle.rows.proofs.words.put_words.Goals as goal

pub returns-then-s-words : goal.returns-then-s-words
returns-then-s-words c = row_left _ _ _ c.if-s-words.true

pub returns : goal.returns
returns c = c.put_from.ensures ∙ row_put c.args.s.now _ c.args.words.now c.if-s-words.false refl
