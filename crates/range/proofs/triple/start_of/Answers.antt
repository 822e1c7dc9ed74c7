-- The first word of a row is its pc.
use borrow.Author.Rules.{rules}
use mathlib.Core.Path.{ap}
use Prim.Native.Nat.{ℕ, ◌*◌}
use Rattle.rows.specs.Rows.{exec_at}
use Rattle.range.proofs.triple.start_of.Goals as goal

pub returns : goal.returns
unfolding exec_at
returns c = (ap (λ (pc : ℕ). 48 * pc) c.word_inside.ensures, search rules)
