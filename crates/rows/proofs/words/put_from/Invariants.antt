-- The first k words are put.
use Rattle.std.proofs.Common.{◌≡◌, take}
use Rattle.rows.specs.Rows.{with_words}
use Rattle.rows.proofs.words.put_from.Given as goal

abbrev pub invariant-loop-k : goal.invariant-loop-k
invariant-loop-k l = l.s ≡ with_words l.initial.s l.at (take l.k l.words)
