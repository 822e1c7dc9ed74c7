-- The invariant: the first i bytes stand in their place.
use mathlib.Core.Path.{◌≡◌, refl, ◌∙◌}
use native.Mathlib.Numerals.{add-one}
use native.Mathlib.Omega.{arith}
use borrow.Author.Rules.{rules}
use lib.ListN.{length, length-set}
use lib.Seq.{paste-zero, paste-suc, take-length}
use Rattle.lines.proofs.put_at.Goals as goal

pub loop-i-init : goal.loop-i-init
loop-i-init c = (refl, paste-zero c.args.out.now c.args.at c.args.text.now)

pub loop-i-preserved : goal.loop-i-preserved
loop-i-preserved c =
    let l = c.loop-i in
    let s = c.args in (
      simp length-set l.invariant.0,
      rw (l.invariant.1, add-one l.i) (paste-suc s.out.now s.at s.text.now l.i 0 (search rules) (search rules)),
    )

pub returns : goal.returns
returns c =
    let l = c.loop-i in
    let s = c.args in
    let e : l.i ≡ length s.text.now = omega arith in
    l.invariant.1 ∙ rw (e, take-length s.text.now)
