-- A digit or a letter.
use borrow.Author.Rules.{rules}
use borrow.Author.Tests.{lt-ltb, le-ltb}
use Prim.Native.Nat.{◌%◌}
use Rattle.label.proofs.writer.hex_digit.Goals as goal

pub returns-then-d-lt10 : goal.returns-then-d-lt10
returns-then-d-lt10 c = rw (lt-ltb (c.args.number % 16) 10 (search rules))

pub returns : goal.returns
returns c = rw (le-ltb (c.args.number % 16) 10 (search rules))
