-- `word::sub` meets its contract: a difference of words needs p at most once; else 3p keeps it above 0, and is a
-- multiple of p.
-- Assumes nothing.
use native.Mathlib.Omega.{arith}
use Rattle.word.specs.Word.{◌-ₚ◌}
use Rattle.word.specs.Word.{p}
use Rattle.word.proofs.Below.{both_below}
use Rattle.word.proofs.sub.Goals as goal

pub overflow_sub-result-else-y-x : goal.overflow_sub-result-else-y-x
overflow_sub-result-else-y-x c =
    let s = c.args in
    let words = both_below s.x s.y p c.if-x-y.true in
    omega (arith, words.1)

pub returns-then-y-x : goal.returns-then-y-x
unfolding ◌-ₚ◌
returns-then-y-x c =
    let s = c.args in
    let words = both_below s.x s.y p c.if-x-y.true in
    omega (arith, words.0, words.1, c.if-y-x.true)

pub returns-else-y-x : goal.returns-else-y-x
unfolding ◌-ₚ◌
returns-else-y-x c =
    let s = c.args in
    let words = both_below s.x s.y p c.if-x-y.true in
    omega (arith, words.0, words.1, c.if-y-x.false)

pub returns : goal.returns
unfolding ◌-ₚ◌
returns c = omega arith
