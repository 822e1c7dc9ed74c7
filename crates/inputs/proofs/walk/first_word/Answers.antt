-- Each word passed is below p, and the walk stops at the first that isn't.
use Rattle.std.proofs.Common.{◌≡◌, ◌/◌, length, sym, ◌∙◌, arith}
use Rattle.inputs.proofs.Walks.{goes_past, finds, finds_none}
use Rattle.inputs.proofs.walk.first_word.Goals as goal

pub loop-i-init : goal.loop-i-init
loop-i-init c = record { within = c.first_eight-start.ensures.0; left = c.first_eight-start.ensures.1 }

pub returns-then-not-is_word : goal.returns-then-not-is_word
returns-then-not-is_word c = finds c.loop-i.invariant (omega arith) (sym c.is_word.ensures ∙ c.if-not-is_word.true)

pub loop-i-preserved : goal.loop-i-preserved
loop-i-preserved c = goes_past c.loop-i.invariant (omega arith) (sym c.is_word.ensures ∙ c.if-not-is_word.false)

pub returns : goal.returns
returns c =
    let walk = c.loop-i.invariant in
    let all : c.loop-i.i ≡ length c.args.bytes.now / 4 = omega (arith, walk.within) in
    sym all ∙ finds_none walk c.loop-i-test.false
