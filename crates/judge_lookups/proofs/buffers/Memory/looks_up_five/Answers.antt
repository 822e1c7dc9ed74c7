-- Each answer is the cell's own.
use Rattle.judge_lookups.proofs.buffers.Memory.looks_up_five.Goals as goal

pub returns : goal.returns
returns c =
    rw (
      c.looks_up-5.ensures,
      c.looks_up-4.ensures,
      c.looks_up-3.ensures,
      c.looks_up-2.ensures,
      c.looks_up.ensures,
    )
