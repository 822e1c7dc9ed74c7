-- Each instruction passed is translatable, and the walk stops at the first that isn't.
use Rattle.std.proofs.Common.{◌≡◌, sym, ◌∙◌, arith}
use Rattle.edition_spec.specs.Translated.{old_count}
use Rattle.inputs.proofs.Walks.{begins, goes_past, finds, finds_none}
use Rattle.edition.proofs.walk.first_untranslatable.Goals as goal

pub returns-then-not-is_translatable : goal.returns-then-not-is_translatable
returns-then-not-is_translatable c =
    let known = rw c.encoded_inside.ensures at c.is_translatable.ensures in
    (finds c.loop-i.invariant (omega arith) (sym known ∙ c.if-not-is_translatable.true), omega arith)

pub loop-i-preserved : goal.loop-i-preserved
loop-i-preserved c =
    let known = rw c.encoded_inside.ensures at c.is_translatable.ensures in
    goes_past c.loop-i.invariant (omega arith) (sym known ∙ c.if-not-is_translatable.false)

pub returns : goal.returns
returns c =
    let walk = c.loop-i.invariant in
    let all : c.loop-i.i ≡ old_count c.args.old.now = omega (arith, walk.within) in
    sym (finds_none walk c.loop-i-test.false) ∙ all

pub loop-i-init : goal.loop-i-init
loop-i-init c = begins _ _
