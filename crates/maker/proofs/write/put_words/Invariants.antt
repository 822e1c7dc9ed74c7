-- The invariant: the first k words stand at the front, then what stood there.
use mathlib.Core.Path.{◌≡◌}
use mathlib.Core.List.{◌++◌}
use Prim.Native.Nat.{◌*◌}
use lib.ListN.{length, drop, get_or}
use Rattle.word.specs.Bytes.{bytes_of, concatenated}
use Rattle.maker.proofs.write.put_words.Given as goal

abbrev pub invariant-loop-k : goal.invariant-loop-k
invariant-loop-k l =
    (length l.s ≡ length l.initial.s) × (l.s ≡ concatenated (λ j. bytes_of (get_or l.words j 0)) l.k ++ drop (4 * l.k) l.initial.s)
