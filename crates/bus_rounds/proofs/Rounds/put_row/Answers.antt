-- A row that pulls nothing, or a tuple of another class, adds to no tuple of the class.
use mathlib.Core.Path.{◌∙◌}
use Prim.Native.Nat.{◌*◌}
use native.Mathlib.Omega.{arith}
use Rattle.rows.specs.Rows.{ext_at}
use Rattle.bus_tuples.proofs.TimesLaws.{few_pulls}
use Rattle.bus_rounds.proofs.Held.{pulls_nothing, pulls_other, pulls_once}
use Rattle.bus_rounds.proofs.Rounds.put_row.Goals as goal

pub returns-then-times-eq0 : goal.returns-then-times-eq0
returns-then-times-eq0 c =
    λ _ put. pulls_nothing put (few_pulls (ext_at c.args.self.now.ext.now (120 * c.args.k)) c.pull_times-times.ensures (omega arith) ∙ c.if-times-eq0.true)

pub returns-then-class_of-class : goal.returns-then-class_of-class
returns-then-class_of-class c = λ _ put. pulls_other put (λ e. c.if-class_of-class.true (c.class_of.ensures ∙ rw c.tuple_at-t.ensures e))

pub returns : goal.returns
returns c =
    λ e put.
    pulls_once put (few_pulls (ext_at c.args.self.now.ext.now (120 * c.args.k)) c.pull_times-times.ensures (omega arith) ∙ c.if-times-ne1.false)
    (c.put_slot.ensures e)
