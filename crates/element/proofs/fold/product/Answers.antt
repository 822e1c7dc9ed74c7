-- `element::fold::product` meets its contract: its words are the folded sums, of a and b modulo p.
-- Assumes nothing.
use mathlib.Core.Path.{◌≡◌, refl, ◌∙◌}
use mathlib.Core.List.{List}
use Prim.Native.Nat.{ℕ, ◌≤◌}
use native.Mathlib.Omega.{arith}
use lib.Dec.{lit≤}
use Rattle.word.specs.Word.{IsWord}
use Rattle.word.specs.Element.{◌⟨◌⟩, IsElement, element, ◌+ₑ◌}
use Rattle.word.proofs.ElementLaws.{sum_element}
use Rattle.element.specs.Sums.{Products}
use Rattle.element.proofs.FoldedSums.{shifted, in_sums, shifted_next, sums_next, shifted_element, by_sums, both_reduced}
use Rattle.element.proofs.fold.product.Goals as goal

-- the words of a, and b·X^k
a_word : (a : List ℕ) {s : List ℕ} → s ≡ a +ₑ element 0 → (k : ℕ) → IsWord (s ⟨ k ⟩)
a_word a e k = rw e ((sum_element _ _).all_words k)

b_element : (k : ℕ) (b : List ℕ) {s : List ℕ} → s ≡ shifted k (b +ₑ element 0) → IsElement s
b_element k b e = rw e (shifted_element k _ (sum_element _ _))

up_to_three : (k : ℕ) (s : List ℕ) → k ≤ 3 → Products k s → Products 3 s
up_to_three k s h f = (omega arith, omega arith, omega arith, omega arith, omega arith)

pub loop-k-init : goal.loop-k-init
unfolding shifted in_sums
loop-k-init c = record {
  by = c.sum-right.ensures;
  summed = refl;
  small = (lit≤ tt, lit≤ tt, lit≤ tt, lit≤ tt, lit≤ tt);
}

pub add_times-requires : goal.add_times-requires
add_times-requires c =
    let l = c.loop-k in
    (a_word _ c.sum-left.ensures _, b_element l.k _ l.invariant.by, up_to_three l.k l.sums (omega arith) l.invariant.small)

pub loop-k-preserved : goal.loop-k-preserved
loop-k-preserved c =
    let l = c.loop-k in
    record {
      by = rw (c.times_x.ensures, l.invariant.by) (shifted_next l.k _);
      summed = rw (c.add_times.ensures.0, l.invariant.summed, l.invariant.by) (sums_next l.k _ _);
      small = c.add_times.ensures.1 l.k l.invariant.small;
    }

pub ended-requires : goal.ended-requires
ended-requires c = (a_word _ c.sum-left.ensures 4, b_element c.loop-k.k _ c.loop-k.invariant.by)

pub returns : goal.returns
returns c =
    let l = c.loop-k in
    let e : l.k ≡ 4 = omega arith in
    c.ended.ensures ∙ rw (l.invariant.summed, l.invariant.by, e) (sums_next 4 _ _ ∙ by_sums _ _ ∙ rw c.sum-left.ensures (both_reduced _ _))
