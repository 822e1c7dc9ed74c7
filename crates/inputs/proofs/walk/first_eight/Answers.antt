-- Each eight passed are words.
use Rattle.std.proofs.Common.{◌≡◌, ◌+◌, ◌*◌, ◌/◌, length, sym, ◌∙◌, arith}
use Rattle.inputs.proofs.Eights.{eight}
use Rattle.inputs.proofs.Walks.{begins, goes_past_all}
use Rattle.inputs.proofs.walk.first_eight.Goals as goal

pub loop-k-init : goal.loop-k-init
loop-k-init c = begins _ _

pub returns-then-not-eight_words : goal.returns-then-not-eight_words
returns-then-not-eight_words c = let walk = c.loop-k.invariant in (walk.within, walk.left)

pub loop-k-preserved : goal.loop-k-preserved
loop-k-preserved c =
    let k = c.loop-k.k in
    let words = sym c.eight_words.ensures ∙ c.if-not-eight_words.false in
    let next : 8 * (k + 1) ≡ 8 * k + 8 = omega arith in
    rw next (goes_past_all c.loop-k.invariant 8 (omega arith) ((eight c.args.bytes.now (8 * k)).0 words))

pub returns : goal.returns
returns c =
    let all : 8 * c.loop-k.k ≡ length c.args.bytes.now / 4 / 8 * 8 = omega arith in
    let walk = rw all at c.loop-k.invariant in
    (walk.within, walk.left)
