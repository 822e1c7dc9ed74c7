-- Each branch is a case of the test in `next`.
use borrow.Author.Rules.{rules}
use borrow.Author.Tests.{lt-ltb, le-ltb}
use Rattle.judge_lookups.proofs.next_row.Goals as goal

pub returns-then-r-n : goal.returns-then-r-n
returns-then-r-n c = (rw (lt-ltb _ _ c.if-r-n.true), search rules)

pub returns-else-r-n : goal.returns-else-r-n
returns-else-r-n c = (rw (le-ltb _ _ c.if-r-n.false), search rules)
