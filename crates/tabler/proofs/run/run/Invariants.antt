-- The invariant is `Ran`: the rows before r pass, and stand in both tables.
use Prim.Native.Nat.{◌/◌}
use lib.ListN.{length}
use Rattle.tables.specs.Machine.{machine_of}
use Rattle.tabler_operands.specs.Looked.{at}
use Rattle.tabler.proofs.Running.{Ran}
use Rattle.tabler.proofs.run.run.Given as goal

abbrev pub invariant-loop-r : goal.invariant-loop-r
invariant-loop-r l =
    Ran (machine_of l.program l.memory) (at l.fn.start.pc l.fn.start.fp) (length l.initial.exec / 32) (length l.initial.ext / 120) l.exec l.ext (at l.state.pc l.state.fp) l.r l.filled l.stays
