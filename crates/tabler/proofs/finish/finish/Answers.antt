-- A verdict other than 0 is STUCK, ROOM or OPEN, which leave zeros.
use mathlib.Core.Path.{sym, ap, ◌∙◌}
use Prim.Native.Nat.{ℕ}
use lib.ListN.{replicate}
use Rattle.answer.specs.declared.Numbers.{Numbers}
use Rattle.tabler.proofs.Ending.{left_filled, left_zero}
use Rattle.tabler.proofs.finish.finish.Goals as goal

pub returns-then-numbers-ne0 : goal.returns-then-numbers-ne0
returns-then-numbers-ne0 c =
    let t = c in
    let x = t.six_numbers-numbers in
    let a = t in
    let s = a.args in
    left_zero s.program.now s.memory.now s.start.pc s.start.fp s.exec.now s.ext.now a.run-answer.ensures
    (λ e. t.if-numbers-ne0.true (ap (λ (n : Numbers). n.verdict) x.ensures ∙ e))
    (c.clear.ensures ∙ ap (λ (n : ℕ). replicate n 0) a.run-answer.auto.exec)
    (c.clear-then-numbers-ne0.ensures ∙ ap (λ (n : ℕ). replicate n 0) a.run-answer.auto.ext)

pub returns-else-numbers-ne0 : goal.returns-else-numbers-ne0
returns-else-numbers-ne0 c =
    let x = c.six_numbers-numbers in
    let a = c in
    let s = a.args in
    left_filled s.program.now s.memory.now s.start.pc s.start.fp s.exec.now s.ext.now a.run-answer.ensures
    (ap (λ (n : Numbers). n.verdict) (sym x.ensures) ∙ c.if-numbers-ne0.false)
