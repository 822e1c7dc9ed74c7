-- One element or two, by c modulo 2; each call joins one in front of what comes after it.
use mathlib.Core.Path.{◌≡◌}
use Prim.Native.Nat.{◌%◌}
use native.Mathlib.Omega.{arith}
use Rattle.maker.proofs.elements.result_of.Goals as goal

pub returns-then-c-eq1 : goal.returns-then-c-eq1
returns-then-c-eq1 c = let n : c.args.c % 2 ≡ 1 = omega arith in rw (n, c.with_element.ensures, c.with_element-second.ensures, c.none-last.ensures, c.op_of-op.ensures)

pub returns : goal.returns
returns c = let n : c.args.c % 2 ≡ 0 = omega arith in rw (n, c.with_element-2.ensures, c.none-last.ensures, c.op_of-op.ensures)
