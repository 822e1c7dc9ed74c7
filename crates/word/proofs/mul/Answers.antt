-- `word::mul` meets its contract: the product of two numbers of 32 bits fits 64, and is reduced.
-- Assumes nothing.
use borrow.Author.Rules.{rules}
use Rattle.word.specs.Word.{◌*ₚ◌}
use Rattle.word.proofs.Width.{below}
use Rattle.word.proofs.mul.Goals as goal

pub overflow_mul-from : goal.overflow_mul-from
overflow_mul-from c = record { fits = below 32 (search rules) (search rules) }

pub returns : goal.returns
unfolding ◌*ₚ◌
returns c = cc
