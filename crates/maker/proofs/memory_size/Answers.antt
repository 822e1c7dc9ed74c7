-- 4 * 2^m is far below 2^64, so the shift loses nothing.
use native.Mathlib.Nat.{mod-eq_of_lt, pow-le-pow_right}
use native.Mathlib.Omega.{arith}
use lib.Dec.{lit<}
use Rattle.maker.proofs.memory_size.Goals as goal

pub returns : goal.returns
returns c = mod-eq_of_lt (omega (arith, pow-le-pow_right {n = 2} (lit< tt) c.requires))
