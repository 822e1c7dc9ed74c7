-- `word::add` meets its contract: a sum of words is below 2p; any other fits 64 bits, and is reduced.
-- Assumes nothing.
use native.Mathlib.Omega.{arith}
use Rattle.word.specs.Word.{◌+ₚ◌}
use Rattle.word.specs.Word.{p}
use Rattle.word.proofs.Below.{both_below}
use Rattle.word.proofs.add.Goals as goal

pub overflow_add-s : goal.overflow_add-s
overflow_add-s c =
    let s = c.args in
    let words = both_below s.x s.y p c.if-x-y.true in
    omega (arith, words.0, words.1)

pub returns-then-s-lt2130706433 : goal.returns-then-s-lt2130706433
unfolding ◌+ₚ◌
returns-then-s-lt2130706433 c = omega (arith, c.if-s-lt2130706433.true)

pub returns-else-s-lt2130706433 : goal.returns-else-s-lt2130706433
unfolding ◌+ₚ◌
returns-else-s-lt2130706433 c =
    let s = c.args in
    let words = both_below s.x s.y p c.if-x-y.true in
    omega (arith, words.0, words.1, c.if-s-lt2130706433.false)

pub returns : goal.returns
unfolding ◌+ₚ◌
returns c = cc
