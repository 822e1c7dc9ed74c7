-- The words from k to j were tested; eight of them are those of the definition.
use Rattle.std.proofs.Common.{◌≡◌, ◌+◌, ◌&&◌, refl, arith}
use Rattle.judge_spec.specs.Judged.{is_word}
use Rattle.inputs.specs.Words.{eight_words}
use Rattle.inputs.proofs.Eights.{nothing, one_more, same_tells, eight}
use Rattle.inputs.proofs.walk.eight_words.Goals as goal

pub loop-j-init : goal.loop-j-init
loop-j-init c = nothing (is_word c.args.s.now) c.args.k

pub loop-j-preserved : goal.loop-j-preserved
loop-j-preserved c =
    let l = c.loop-j in
    rw c.is_word-all.ensures (one_more (is_word c.args.s.now) l.all c.args.k l.j (l.j + 1) (omega arith) refl l.invariant)

pub returns : goal.returns
returns c =
    let l = c.loop-j in
    let e : l.j ≡ c.args.k + 8 = omega arith in
    same_tells (is_word c.args.s.now) l.all (eight_words c.args.s.now c.args.k) c.args.k (c.args.k + 8) (rw e at l.invariant) (eight c.args.s.now c.args.k)
