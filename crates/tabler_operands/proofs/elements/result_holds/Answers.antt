-- At j the rest is what the elements from j on come to; each turn joins one element more in front.
use mathlib.Core.Path.{◌≡◌}
use Prim.Native.Nat.{◌-◌}
use native.Mathlib.Nat.{sub-zero}
use native.Mathlib.Omega.{arith}
use Rattle.rules.specs.Sizes.{word_of}
use Rattle.tabler_operands.proofs.Results.{none_left, one_more, result_exists, element_exists}
use Rattle.tabler_operands.proofs.elements.result_holds.Goals as goal

pub loop-j-init : goal.loop-j-init
loop-j-init c = none_left (word_of c.args.memory.now) c.args.g c.none-rest.ensures

pub with_element-requires : goal.with_element-requires
with_element-requires c = element_exists c.requires _ (omega arith)

pub loop-j-preserved : goal.loop-j-preserved
loop-j-preserved c =
    let l = c.loop-j in
    one_more (word_of c.args.memory.now) c.args.g (l.j - 1) l.j (omega arith) (omega arith) l.invariant c.with_element.ensures

pub element_at-requires : goal.element_at-requires
element_at-requires c = result_exists c.requires

pub returns : goal.returns
returns c =
    let l = c.loop-j in
    let none : l.j ≡ 0 = omega arith in
    let all = rw (none, sub-zero _) at l.invariant in
    rw (c.same.ensures, c.element_at.ensures, all)
