-- The tests that led to a return pick the same operation in `op_by`.
use borrow.Author.Tests.{lt-ltb, le-ltb}
use Rattle.form.proofs.data.op_by.Goals as goal

pub returns-then-rest-lt8 : goal.returns-then-rest-lt8
returns-then-rest-lt8 c = rw (lt-ltb _ _ c.if-rest-lt8.true)

pub returns-then-rest-lt16 : goal.returns-then-rest-lt16
returns-then-rest-lt16 c = rw (le-ltb _ _ c.if-rest-lt8.false, lt-ltb _ _ c.if-rest-lt16.true)

pub returns : goal.returns
returns c = rw (le-ltb _ _ c.if-rest-lt8.false, le-ltb _ _ c.if-rest-lt16.false)
