-- The walk stops at the first row that has a rule that fails; what the rows passed push is followed.
use mathlib.Core.Path.{refl, sym, ap, ◌∙◌}
use Prim.Native.Nat.{◌*◌}
use native.Mathlib.Omega.{arith}
use Rattle.inputs.proofs.Eights.{eight}
use Rattle.bus_tuples.specs.Order.{pulled_by}
use Rattle.bus_tuples.proofs.OrderLaws.{pulled_more}
use Rattle.judge_lookups.specs.Joined.{joined}
use Rattle.judge_walks.proofs.Rows.{stops_at, ends_at, at_first, row_passed, row_fails, rows_end, pc_inside}
use Rattle.judge_walks.proofs.exec_walk.Goals as goal

pub loop-r-init : goal.loop-r-init
unfolding pulled_by
loop-r-init c = (refl, at_first _ _ _ 8, refl)

pub exec_failing-requires : goal.exec_failing-requires
exec_failing-requires c = record {
  r_in_bounds = omega arith;
  x_value = (c.exec_inside-x.ensures, rw c.next_row.ensures.0 at c.exec_inside-y.ensures);
}

pub returns-then-exec_failing-ne0 : goal.returns-then-exec_failing-ne0
returns-then-exec_failing-ne0 c =
    let loop = c.loop-r in
    let s = c.args in
    let same = c.exec_rule-rule.ensures ∙ sym c.exec_failing.ensures in
    let here = c.exec_failing.result in
    let told = c.exec_failing.ensures in
    let bad = c.if-exec_failing-ne0.true in
    record {
      tested = rw same (row_fails _ _ _ 8 loop.invariant.1 here (omega arith) told bad);
      pulled = loop.invariant.2 ∙ ap (pulled_by s.program.now s.exec.now s.ext.now) (stops_at _ _ _ 8 loop.invariant.1 here (omega arith) told bad);
    }

pub overflow_mul-r-in-loop-r : goal.overflow_mul-r-in-loop-r
overflow_mul-r-in-loop-r c =
    let inside = c.loop-r-test.true in
    let start = c in
    omega (arith, inside, start.well_formed)

pub instruction_inside-i-requires : goal.instruction_inside-i-requires
instruction_inside-i-requires c =
    let passed = c in
    let start = passed in
    let row = passed.exec_inside-x in
    let inside = pc_inside start.args.program.now (joined start.args.memory) _ _ _ (sym passed.exec_failing.ensures ∙ passed.if-exec_failing-ne0.false) in
    omega (arith, rw (← row.ensures) at inside)

pub loop-r-preserved : goal.loop-r-preserved
loop-r-preserved c =
    let words = c.eight_words-words in
    let passed = c in
    let tried = passed in
    let row = tried.exec_inside-x in
    let inside = tried.loop-r-test.true in
    let loop = tried.loop-r in
    let args = tried.args in
    let exec = args.exec.now in
    let rule = tried.exec_failing.ensures in (
      refl,
      row_passed _ _ _ 8 loop.invariant.1 words.result (omega (arith, inside)) (sym rule ∙ passed.if-exec_failing-ne0.false) (rw words.ensures (eight exec (8 * loop.r))),
      rw (c.after_row-pulled.ensures, c.instruction_inside-i.ensures, row.ensures, loop.invariant.2) (sym (pulled_more args.program.now exec args.ext.now loop.r)),
    )

pub returns : goal.returns
returns c =
    let loop = c.loop-r in
    let s = c.args in
    record {
      tested = rows_end _ _ _ 8 loop.invariant.1 c.loop-r-test.false (omega arith);
      pulled = loop.invariant.2 ∙ ap (pulled_by s.program.now s.exec.now s.ext.now) (ends_at _ _ _ 8 loop.invariant.1 c.loop-r-test.false);
    }
