-- The invariant: b·X^k stands for b, and the words of a below k are summed with what stood for it.
use mathlib.Core.Path.{◌≡◌}
use Rattle.word.specs.Element.{element, ◌+ₑ◌}
use Rattle.element.specs.Sums.{reduced_of, Products}
use Rattle.element.proofs.FoldedSums.{shifted, in_sums}
use Rattle.element.proofs.fold.product.Given as goal

abbrev pub invariant-loop-k : goal.invariant-loop-k
invariant-loop-k l = record {
  by : l.right ≡ shifted l.k (l.fn.b +ₑ element 0);
  summed : reduced_of l.sums ≡ in_sums l.k l.left (l.fn.b +ₑ element 0);
  small : Products l.k l.sums;
}
