-- Before each turn the rows below k are put.
use Rattle.bus_rounds.specs.Slots.{Put}
use Rattle.bus_rounds.proofs.Rounds.put_rows.Given as goal

abbrev pub invariant-loop-k : goal.invariant-loop-k
invariant-loop-k l =
    Put l.self.ext.now l.self.span l.self.count l.class l.initial.slots 0 → Put l.self.ext.now l.self.span l.self.count l.class l.slots l.k
