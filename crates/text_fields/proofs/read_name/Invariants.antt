-- The invariant: what is left of the word gives the whole reading.
use Prim.Native.Nat.{ℕ, ◌+◌, ◌≤◌}
use mathlib.Core.Path.{◌≡◌}
use lib.ListN.{length, drop}
use Rattle.text_patterns.specs.Pattern.{lit, done, parse}
use Rattle.text_fields.proofs.read_name.Given as goal

abbrev pub invariant-loop-j : goal.invariant-loop-j
invariant-loop-j l =
    (l.at + l.j ≤ length l.text)
    × (parse {A = ℕ} (lit l.word (done l.value)) (drop l.at l.text) ≡ parse {A = ℕ} (lit (drop l.j l.word) (done l.value)) (drop (l.at + l.j) l.text))
