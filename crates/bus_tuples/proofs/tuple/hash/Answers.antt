-- Four words times numbers below 2^30 fit 64 bits.
use native.Mathlib.Omega.{arith}
use Rattle.bus_tuples.specs.Sent.{hash_of}
use Rattle.bus_tuples.proofs.tuple.hash.Goals as goal

pub returns : goal.returns
unfolding hash_of
returns c = omega arith
