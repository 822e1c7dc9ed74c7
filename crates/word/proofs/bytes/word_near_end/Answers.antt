-- `word::bytes::word_near_end` meets its contract: each byte is read with the default past the end.
-- Assumes nothing.
use Rattle.word.proofs.FourBytes.{past}
use Rattle.word.proofs.bytes.word_near_end.Goals as goal

pub returns-then-s-at : goal.returns-then-s-at
returns-then-s-at c = past c.args.s.now _ c.if-s-at.true
