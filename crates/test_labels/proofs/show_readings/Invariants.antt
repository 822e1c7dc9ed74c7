-- The loop ends: each record is cut off what is left.
use Rattle.std.proofs.Common.{length}
use Rattle.test_labels.proofs.show_readings.Given as goal

abbrev pub decreases-loop-size : goal.decreases-loop-size
decreases-loop-size g l = length l.left
