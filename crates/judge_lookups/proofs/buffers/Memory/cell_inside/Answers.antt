-- The part that is handed back is the cell.
use borrow.Author.Rules.{rules}
use mathlib.Core.Path.{◌∙◌}
use native.Mathlib.Omega.{arith}
use Rattle.judge_lookups.proofs.Cells.{cell_long, cell_word}
use Rattle.judge_lookups.specs.Joined.{joined}
use Rattle.judge_lookups.proofs.buffers.Memory.cell_inside.Goals as goal

pub word_inside-requires : goal.word_inside-requires
word_inside-requires c =
    let s = c.args in
    omega (arith, cell_long (joined s.self) s.addr c.cell.ensures (search rules))

pub returns : goal.returns
returns c =
    let s = c.args in
    c.word_inside.ensures ∙ cell_word (joined s.self) s.addr c.cell.ensures (search rules)
