-- `stream::leap` meets its contract: the bits that are left lead from here to where all of them lead from the start.
use Rattle.std.proofs.Common.{◌≡◌, ◌*◌, ◌%◌, ◌^◌, sym, ◌∙◌, arith, rules}
use Rattle.stream_spec.specs.Stream.{advances}
use Rattle.stream.proofs.Bits.{bit_done, falls, set_bit, clear_bit, none_from, all_done}
use Rattle.stream.proofs.leap.Goals as goal
use Rattle.stream.proofs.leap.Goals.{then-left-eq1, else-left-eq1}

pub loop-i-preserved : goal.loop-i-preserved
loop-i-preserved c =
    let l = c.loop-i in
    let laid = c.pairs-table in
    let inside = c.loop-i-test.true in
    let led : c.if-left-eq1.state ≡ advances (l.left % 2 * 2 ^ l.i) l.state =
    elim c.if-left-eq1.branch [
      | then-left-eq1 w ↦ w.state-is ∙ c.apply-led.ensures ∙ set_bit l.left l.i l.state laid.result _ laid.ensures inside w.if-left-eq1.true
      | else-left-eq1 w ↦ w.state-is ∙ clear_bit l.left l.i l.state w.if-left-eq1.false
    ]
    in
    (omega (arith, l.invariant.0, falls l.left l.i), l.invariant.1 ∙ bit_done l.left l.i l.state c.if-left-eq1.state led)

pub returns-then-left-eq0 : goal.returns-then-left-eq0
returns-then-left-eq0 c =
    let l = c.loop-i in
    sym (l.invariant.1 ∙ all_done l.left l.i l.state c.if-left-eq0.true)

pub returns-after-loop-i : goal.returns-after-loop-i
returns-after-loop-i c =
    let l = c.loop-i in
    sym (l.invariant.1 ∙ all_done l.left l.i l.state (none_from l.left l.i (search rules) l.invariant.0))
