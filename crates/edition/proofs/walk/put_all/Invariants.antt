-- At i the first i instructions stand, translated, at the front of the output.
use mathlib.Core.Path.{◌≡◌}
use Prim.Native.Nat.{◌*◌}
use lib.ListN.{length, take}
use Rattle.word.specs.Bytes.{concatenated}
use Rattle.edition_spec.specs.Translated.{instruction_bytes}
use Rattle.edition.proofs.walk.put_all.Given as goal

abbrev pub invariant-loop-i : goal.invariant-loop-i
invariant-loop-i l =
    (length l.program ≡ length l.initial.program) × (take (48 * l.i) l.program ≡ concatenated (instruction_bytes l.old) l.i)
