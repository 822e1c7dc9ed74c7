-- One word more is put.
use Rattle.rows.proofs.Writing.{put_next}
use Rattle.rows.proofs.words.put_from.Goals as goal

pub loop-k-preserved : goal.loop-k-preserved
loop-k-preserved c = rw (← put_next c.args.words.now c.args.s.now c.args.at c.loop-k.k c.loop-k-test.true, ← c.loop-k.invariant) c.put_word.ensures
