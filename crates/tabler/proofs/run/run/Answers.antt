-- The invariant is `Ran`: the rows before r pass, and stand in both tables.
use mathlib.Core.Path.{sym, ap, ◌∙◌}
use Prim.Native.Nat.{ℕ, ◌/◌}
use native.Mathlib.Omega.{arith}
use Rattle.tabler.proofs.Ending.{refused}
use Rattle.tabler.proofs.Running.{begins, stands, all_exec, all_ext}
use Rattle.tabler.proofs.Steps.{past_program, stuck_here, full_here, turns}
use Rattle.tabler.proofs.run.run.Goals as goal

pub loop-r-init : goal.loop-r-init
loop-r-init c = begins (omega (arith, c.requires.fitting.ext_some))

pub returns-then-count-state : goal.returns-then-count-state
returns-then-count-state c = refused (omega arith) (past_program c.loop-r.invariant c.loop-r-test.true c.if-count-state.true)

pub returns-in-Err-Stuck : goal.returns-in-Err-Stuck
returns-in-Err-Stuck c =
    let l = c.loop-r in
    let came = rw c.in-Err-Stuck.field-0-is at (sym c.in-Err-Stuck.is ∙ c.take_step.ensures.value) in
    rw c.in-Err-Stuck.field-0-is
    (refused (omega arith)
    (stuck_here l.invariant c.loop-r-test.true c.if-count-state.false c.form_at-f.ensures c.look_all-o.ensures (ap (λ (n : ℕ). n / 120) l.auto.ext) came))

pub returns-in-Err-Full : goal.returns-in-Err-Full
returns-in-Err-Full c =
    let l = c.loop-r in
    let came = rw c.in-Err-Full.field-0-is at (sym c.in-Err-Full.is ∙ c.take_step.ensures.value) in
    refused (omega arith)
    (full_here l.invariant c.loop-r-test.true c.if-count-state.false c.form_at-f.ensures c.look_all-o.ensures (ap (λ (n : ℕ). n / 120) l.auto.ext) came)

pub loop-r-preserved : goal.loop-r-preserved
loop-r-preserved c =
    let l = c.loop-r in
    let more = c.loop-r-test.true in
    rw c.eq-stays.ensures
    (turns l.invariant more c.if-count-state.false c.form_at-f.ensures c.look_all-o.ensures (ap (λ (n : ℕ). n / 120) l.auto.ext)
    (sym c.in-Ok.is ∙ c.take_step.ensures.value) (omega (arith, more, l.auto.exec)) c.take_step.ensures.ext_after c.put_row.ensures)

pub returns : goal.returns
returns c =
    let l = c.loop-r in
    let fitting = c.requires.fitting in
    let done = c.loop-r-test.false in
    let x = c.close.ensures in
    record {
      answer = x.value ∙ stands l.invariant done;
      exec_filled = λ _. all_exec l.invariant done (omega (arith, l.auto.exec, fitting.exec_rows));
      ext_filled = λ y. all_ext l.invariant done (omega (arith, l.auto.ext, fitting.ext_rows)) (x.ext_after y);
    }
