-- Where nothing is handed back there is no such cell; else the word is the cell's.
use borrow.Author.Rules.{rules}
use borrow.Author.Tests.{le-ltb, lt-ltb}
use Rattle.judge_lookups.proofs.Cells.{cell_short, cell_full, cell_word}
use Rattle.judge_lookups.specs.Joined.{joined}
use Rattle.judge_lookups.proofs.buffers.Memory.look.Goals as goal

pub returns-then-bytes-lt4 : goal.returns-then-bytes-lt4
returns-then-bytes-lt4 c =
    let s = c.args in
    rw (le-ltb _ _ (cell_short (joined s.self) s.addr c.cell-bytes.ensures (search rules)))

pub returns : goal.returns
returns c =
    let before = c in
    let s = before.args in
    let inside = cell_full (joined s.self) s.addr before.cell-bytes.ensures (search rules) in
    rw (lt-ltb _ _ inside, c.word_inside.ensures, cell_word (joined s.self) s.addr before.cell-bytes.ensures inside)
