-- Each field is the row's.
use mathlib.Core.Path.{◌≡◌, refl, ◌∙◌}
use Prim.Native.Nat.{◌*◌}
use native.Mathlib.Omega.{arith}
use Rattle.rows.specs.Rows.{ext_at}
use Rattle.rules.specs.Bus.{pulls}
use Rattle.bus_tuples.proofs.TimesLaws.{right_flags}
use Rattle.bus_windows.proofs.sender.Senders.puller.Goals as goal

pub returns-then-minus-eq0 : goal.returns-then-minus-eq0
returns-then-minus-eq0 c =
    let row = ext_at c.args.self.now.ext.now (120 * c.args.k) in
    let times : c.pull_times-minus.result ≡ pulls row = c.pull_times-minus.ensures ∙ right_flags row (c.args.self.now.flagged c.args.k c.requires) in
    omega arith

pub returns : goal.returns
returns c =
    let row = ext_at c.args.self.now.ext.now (120 * c.args.k) in
    let flags = c.args.self.now.flagged c.args.k c.requires in
    record {
      plus_is = refl;
      minus_is = c.pull_times-minus.ensures ∙ right_flags row flags;
      some = λ none. c.if-minus-eq0.false (omega arith);
      tuple_is = c.tuple_at.ensures;
    }
