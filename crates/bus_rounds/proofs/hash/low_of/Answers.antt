-- A tag times the span is a multiple of it, and less than all numbers by more than the span.
use native.Mathlib.Omega.{arith}
use mathlib.Core.Path.{◌≡◌}
use Rattle.bus_rounds.proofs.hash.low_of.Goals as goal

pub returns-then-span-eq131072 : goal.returns-then-span-eq131072
returns-then-span-eq131072 c =
    let here : c.args.span ≡ 131072 = c.if-span-eq131072.true in
    record { whole = rw here (omega arith); fits = omega arith }

pub returns : goal.returns
returns c =
    let here : c.args.span ≡ 2097152 = c.requires c.if-span-eq131072.false in
    record { whole = rw here (omega arith); fits = omega arith }
