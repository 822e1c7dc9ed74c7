-- The sum stays below the modulus.
use Rattle.std.proofs.Common.{◌<◌}
use Rattle.test_trials.proofs.trial.checksum.Given as goal

abbrev pub invariant-loop-byte : goal.invariant-loop-byte
invariant-loop-byte l = l.sum < 36028797018963913
