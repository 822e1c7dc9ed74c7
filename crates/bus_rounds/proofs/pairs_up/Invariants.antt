-- Before each round the tuples of the classes below it are settled.
use mathlib.Core.Path.{◌≡◌}
use mathlib.Core.List.{[]}
use lib.ListN.{length}
use Prim.Native.Nat.{ℕ, ◌/◌, ◌<◌}
use Rattle.rules.specs.Bus.{Tuple, pushed_to, pulled_to}
use Rattle.rules.specs.Sizes.{given, tables}
use Rattle.bus_rounds.specs.Slots.{class_of}
use Rattle.bus_rounds.proofs.pairs_up.Given as goal

abbrev pub invariant-loop-class : goal.invariant-loop-class
invariant-loop-class l =
    (c : ℕ) → c < l.class → (σ : Tuple) → class_of l.rounds.count σ ≡ c
    → pushed_to (given l.program []) (tables l.exec l.ext) σ (length l.exec / 32) ≡ pulled_to (tables l.exec l.ext) σ (length l.ext / 120)
