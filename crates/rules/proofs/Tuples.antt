-- When two tuples are the same.
-- Assumes nothing.
use mathlib.Core.Path.{◌≡◌}
use mathlib.Core.Bool.{true}
use mathlib.Core.List.{[], ◌∷◌}
use lib.Dec.{eqb}
use borrow.Author.Tests.{eqb-true}
use Rattle.word.proofs.Tests.{eqb_same, each}
use Rattle.rules.specs.Bus.{Tuple, same_tuple}

pub same_self : (σ : Tuple) → same_tuple σ σ ≡ true
same_self σ = simp eqb_same

-- tuples that the test finds the same are
pub same_tuple_lem : (s t : Tuple) → same_tuple s t ≡ true → s ≡ t
same_tuple_lem s t e =
    let (aux, (left, (right, out))) = each (eqb s.aux t.aux) (eqb s.left t.left ∷ eqb s.right t.right ∷ eqb s.out t.out ∷ []) e in
    λ i.
    record {
      aux = eqb-true s.aux t.aux aux i;
      left = eqb-true s.left t.left left i;
      right = eqb-true s.right t.right right i;
      out = eqb-true s.out t.out out i;
    }
