-- Slot 0 holds the tuple.
use Rattle.std.proofs.Common.{sym, ap, ◌∙◌, arith, get_or-set_same}
use Rattle.bus_tuples.specs.Sent.{tuple_of}
use Rattle.bus_search.specs.Slots.{tuple_in}
use Rattle.bus_search.proofs.Slots.{held, slot_zero}
use Rattle.bus_search.proofs.Window.insert_first.Goals as goal

pub returns-clause-slot : goal.returns-clause-slot
returns-clause-slot c =
    sym (slot_zero _ (tuple_of c.args.t)
    (held (tuple_of c.args.t) _ (ap tuple_in (get_or-set_same c.args.self.now.slots 0 c.key.result 0 (omega arith)) ∙ c.key.ensures.tuple)))
