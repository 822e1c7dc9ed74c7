-- Where it was seen that there is none, their number is the answer.
use mathlib.Core.Path.{sym}
use Rattle.inputs.proofs.walk.first_word_unless.Goals as goal

pub returns-then-seen : goal.returns-then-seen
returns-then-seen c = sym (c.requires c.if-seen.true)

pub returns : goal.returns
returns c = c.first_word.ensures
