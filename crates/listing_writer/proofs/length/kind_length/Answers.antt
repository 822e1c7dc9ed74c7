-- In each arm the kind is known.
use native.Mathlib.Omega.{arith}
use Rattle.listing_writer.proofs.Lengths.{extension_length}
use Rattle.listing_writer.proofs.length.kind_length.Goals as goal

pub returns-in-Extension : goal.returns-in-Extension
returns-in-Extension c =
    rw c.in-Extension.is (omega (arith, extension_length c.in-Extension.op c.in-Extension.be c.in-Extension.n))
