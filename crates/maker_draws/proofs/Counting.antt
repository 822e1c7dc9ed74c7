-- How many numbers below a bound pass a test: any, those of one remainder, and those that a second bound lets through.
-- Assumes nothing.
use mathlib.Core.Path.{◌≡◌, refl}
use mathlib.Core.Bool.{Bool, true, false}
use Prim.Native.Nat.{ℕ, zero, suc, ◌+◌, ◌-◌, ◌/◌, ◌%◌, ◌≤◌, ◌<◌}
use native.Mathlib.Nat.{add-zero, add-suc}
use native.Mathlib.Omega.{arith}
use borrow.Author.Tests.{eq-eqb, ne_eqb}
use lib.Dec.{eqb}
use Rattle.word.specs.Word.{p}
use Rattle.word.proofs.Tests.{by_equal}
use Rattle.maker_draws.specs.Even.{count_below}

pub count_all : (n : ℕ) → count_below (λ number. true) n ≡ n
unfolding count_below
count_all zero = refl
count_all (suc n) = rw (count_all n) (omega arith)

-- of remainder r modulo p: r, and every p-th number from there on
pub count_remainder : (r : ℕ) → r < p → (n : ℕ) → count_below (λ number. eqb (number % p) r) n ≡ (n + (p - 1 - r)) / p
unfolding count_below
count_remainder r h zero = omega arith
count_remainder r h (suc n) =
    rw (count_remainder r h n)
    (by_equal (n % p) r (λ e. rw (eq-eqb (n % p) r e) (omega arith)) (λ e. rw (ne_eqb (n % p) r e) (omega arith)))

-- a test that is another one below a bound, and fails from there on
module _ (test other : ℕ → Bool) (bound : ℕ) (below : (x : ℕ) → x < bound → test x ≡ other x) (above : (x : ℕ) → bound ≤ x → test x ≡ false) where
  same : (n : ℕ) → n ≤ bound → count_below test n ≡ count_below other n
  unfolding count_below
  same zero h = refl
  same (suc n) h = rw (same n (omega arith), below n h)

  pub count_bounded : (k : ℕ) → count_below test (bound + k) ≡ count_below other bound
  unfolding count_below
  count_bounded zero = rw (add-zero bound) (same bound (omega arith))
  count_bounded (suc k) = rw (add-suc bound k, count_bounded k, above (bound + k) (omega arith)) (add-zero _)
