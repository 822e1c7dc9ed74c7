-- By the buffer that holds the first of them.
use borrow.Author.Rules.{rules}
use mathlib.Core.Path.{sym, ◌∙◌}
use Rattle.judge_lookups.proofs.Seam.{held_first, held_second}
use Rattle.judge_lookups.proofs.buffers.cells.Goals as goal

pub returns-then-addr-seam : goal.returns-then-addr-seam
returns-then-addr-seam c = c.part_of.ensures ∙ sym (held_first _ _ _ _ (search rules))

pub returns : goal.returns
returns c = c.part_of-2.ensures ∙ sym (held_second _ _ _ _ (search rules))
