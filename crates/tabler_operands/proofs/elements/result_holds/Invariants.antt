-- At j the rest is what the elements from j on come to; each turn joins one element more in front.
use mathlib.Core.Path.{◌≡◌}
use Rattle.rules.specs.Sizes.{word_of}
use Rattle.tabler_operands.specs.Elements.{result_from}
use Rattle.tabler_operands.proofs.elements.result_holds.Given as goal

abbrev pub invariant-loop-j : goal.invariant-loop-j
invariant-loop-j l = l.rest ≡ result_from (word_of l.memory) l.g l.j
