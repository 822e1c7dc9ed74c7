-- n is a power that was met, or none of them.
use Rattle.std.proofs.Common.{◌≡◌, ◌^◌, ◌≤◌, sym, ◌∙◌, arith, below_more}
use Rattle.inputs.proofs.Powers.{shifted, hit, none}
use Rattle.inputs.proofs.size.is_power.Goals as goal

pub returns-then-n-k : goal.returns-then-n-k
returns-then-n-k c =
    let k = c.loop-k.k in
    hit c.args.n c.args.low c.args.high k (omega arith) (omega arith) (c.if-n-k.true ∙ shifted k (omega arith))

pub loop-k-preserved : goal.loop-k-preserved
loop-k-preserved c =
    let k = c.loop-k.k in
    below_more (λ j. c.args.low ≤ j → c.args.n ≡ 2 ^ j → ⊥) k c.loop-k.invariant
    (λ least e. c.if-n-k.false (e ∙ sym (shifted k (omega arith))))

pub returns : goal.returns
returns c = none c.args.n c.args.low c.args.high (λ j least most. c.loop-k.invariant j (omega arith) least)
