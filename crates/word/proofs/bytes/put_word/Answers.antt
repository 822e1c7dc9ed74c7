-- `word::bytes::put_word` meets its contract: the four bytes are copied, or none where they do not fit.
-- Assumes nothing.
use native.Mathlib.Omega.{arith}
use Rattle.word.proofs.FourBytes.{room, no_room}
use Rattle.word.proofs.bytes.put_word.Goals as goal

pub returns-then-s-lt4 : goal.returns-then-s-lt4
returns-then-s-lt4 c = no_room _ _ _ (omega arith)

pub returns : goal.returns
returns c = rw (c.copy_from_slice.ensures.after, c.to_le_bytes.ensures) (room _ _ _ (omega arith))
