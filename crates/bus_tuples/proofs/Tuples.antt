-- When two tuples are the same, and that `==` says it of two in code.
-- Assumes nothing.
use mathlib.Core.Bool.{Bool, true, false, ◌&&◌}
use mathlib.Core.Path.{◌≡◌, refl, ap}
use lib.Dec.{eqb}
use Rattle.rules.specs.Bus.{Tuple, same_tuple}
use Rattle.bus_tuples.specs.Sent.{tuple_of}
use Rattle.bus_tuples.specs.declared.Sent.{Sent}
pub use Rattle.rules.proofs.Tuples.{same_tuple_lem}

-- the code's tuple is known by the definition's
pub tuple_keeps : (s t : Sent) → tuple_of s ≡ tuple_of t → s ≡ t
tuple_keeps s t e i =
    record {
      aux = ap (λ (σ : Tuple). σ.aux) e i;
      left = ap (λ (σ : Tuple). σ.left) e i;
      right = ap (λ (σ : Tuple). σ.right) e i;
      out = ap (λ (σ : Tuple). σ.out) e i;
    }

pub equal_same : (s t : Sent)
    → (eqb s.aux t.aux && (eqb s.left t.left && (eqb s.right t.right && eqb s.out t.out))) ≡ same_tuple (tuple_of s) (tuple_of t)
equal_same s t = go (eqb s.aux t.aux) (eqb s.left t.left) (eqb s.right t.right) (eqb s.out t.out)
  where
    go : (a b c d : Bool) → (a && (b && (c && d))) ≡ (a && b && c && d)
    go true true c d = refl
    go true false c d = refl
    go false b c d = refl
