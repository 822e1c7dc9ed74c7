-- What is too long does not fit; else each test is the definition's.
use borrow.Author.Rules.{rules}
use native.Mathlib.Omega.{arith}
use Rattle.split.proofs.Lengths.{too_long}
use Rattle.split.proofs.split_fits.Goals as goal

pub returns-then-public-gt2147483648 : goal.returns-then-public-gt2147483648
returns-then-public-gt2147483648 c = too_long c.args.public c.args.rest (omega (arith, c.if-public-gt2147483648.true))

pub returns-then-rest-gt2147483648 : goal.returns-then-rest-gt2147483648
returns-then-rest-gt2147483648 c = let s = c.args in too_long s.public s.rest (omega (arith, c.if-rest-gt2147483648.true))

pub returns : goal.returns
returns c = rw (c.memory_fits.ensures, c.public_fits.ensures)
