-- Before each turn the rows below r took what they push.
use Rattle.bus_rounds.specs.Slots.{Taken}
use Rattle.bus_rounds.proofs.Rounds.take_rows.Given as goal

abbrev pub invariant-loop-r : goal.invariant-loop-r
invariant-loop-r l =
    Taken l.self.rows.program.now l.self.rows.exec.now l.self.ext.now l.self.span l.self.count l.class l.initial.slots 0
    → Taken l.self.rows.program.now l.self.rows.exec.now l.self.ext.now l.self.span l.self.count l.class l.slots l.r
