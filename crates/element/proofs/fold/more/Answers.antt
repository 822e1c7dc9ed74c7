-- `element::fold::more` meets its contract: a word is at most p - 1.
-- Assumes nothing.
use Prim.Native.Nat.{ℕ, ◌*◌, ◌<◌, ◌≤◌}
use native.Mathlib.Nat.{mul-le-mul}
use native.Mathlib.Omega.{arith}
use Rattle.word.specs.Word.{p, ◌+ₚ◌, ◌*ₚ◌}
use Rattle.element.proofs.FoldedSums.{sum_reduced}
use Rattle.element.proofs.fold.more.Goals as goal
use Rattle.element.proofs.fold.more.Goals.{After-from-2}

at_most : (x y : ℕ) → x < p → y < p → x * y ≤ 2130706432 * 2130706432
at_most x y hx hy = mul-le-mul {n₂ = 2130706432} {m₂ = 2130706432} (omega arith) (omega arith)

bound : (c : After-from-2) → c.from.result * c.from-2.result ≤ 4539909899366170624
bound c = at_most c.from.result c.from-2.result (omega arith) (omega arith)

pub overflow_mul-result : goal.overflow_mul-result
overflow_mul-result c = record { fits = omega (arith, bound c) }

pub overflow_add-result : goal.overflow_add-result
overflow_add-result c = record { fits = omega (arith, bound c) }

pub returns : goal.returns
unfolding ◌+ₚ◌ ◌*ₚ◌
returns c = (rw (c.from-2.ensures, c.from.ensures) (sum_reduced _ _), omega (arith, bound c))
