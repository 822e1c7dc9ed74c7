-- Before each round the tuples of the classes below it are settled, and every class is below the number of rounds.
use native.Mathlib.Omega.{arith}
use native.Mathlib.Nat.{mod-lt}
use mathlib.Core.Path.{refl}
use Prim.Native.Nat.{◌+◌, ◌/◌, ◌<◌}
use borrow.Author.Count.{below_more}
use Rattle.bus_tuples.specs.Sent.{hash_of}
use Rattle.bus_rounds.specs.Slots.{class_of}
use Rattle.bus_rounds.proofs.pairs_up.Goals as goal

pub loop-class-init : goal.loop-class-init
loop-class-init c = below_more _ _ (λ c h. absurd (omega arith)) (c.settles.ensures c.if-not-settles.false)

pub loop-class-preserved : goal.loop-class-preserved
loop-class-preserved c = below_more _ _ c.loop-class.invariant (c.settles-in-loop-class.ensures c.if-not-settles-2.false)

pub returns : goal.returns
unfolding class_of
returns c =
    let rounds = c.starts.result / 6145 + 1 in
    let some : 0 < rounds = omega arith in
    λ _ σ. c.loop-class.invariant (class_of rounds σ) (omega (arith, mod-lt (hash_of σ / 6553) some)) σ refl
