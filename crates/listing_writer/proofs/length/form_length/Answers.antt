-- The parts' lengths are added.
use native.Mathlib.Omega.{arith}
use Rattle.listing_writer.proofs.Lengths.{line_length}
use Rattle.listing_writer.proofs.length.form_length.Goals as goal

pub returns : goal.returns
returns c = omega (arith, line_length c.args.f)
