-- The invariant: the tests so far are those of the digits passed.
use mathlib.Core.Bool.{Bool, ◌&&◌}
use mathlib.Core.Path.{sym, ◌∙◌, ap, ap₂}
use native.Mathlib.Omega.{arith}
use borrow.Author.Rules.{rules}
use Rattle.text_fields.specs.Digit.{every, hex_at}
use Rattle.text_fields.proofs.Every.{every_more}
use Rattle.text_fields.proofs.hex.all_hex.Goals as goal

pub loop-k-init : goal.loop-k-init
unfolding every
loop-k-init c = search rules

pub loop-k-preserved : goal.loop-k-preserved
loop-k-preserved c =
    let a = c.args in
    let l = c.loop-k in
    ap₂ (λ (a b : Bool). a && b) l.invariant c.is_hex-good.ensures ∙ sym (every_more (hex_at a.text.now a.at) l.k)

pub returns : goal.returns
returns c =
    let a = c.args in
    c.loop-k.invariant ∙ ap (every (hex_at a.text.now a.at)) (omega arith)
