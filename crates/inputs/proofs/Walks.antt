-- A loop that looks for the first failure: it is at i, and what is left of the search gives the whole answer.
-- Assumes nothing.
use mathlib.Core.Path.{◌≡◌, sym, ◌∙◌}
use mathlib.Core.Bool.{Bool, true, false, ◌&&◌}
use Prim.Native.Nat.{ℕ, zero, suc, ◌+◌, ◌-◌, ◌≤◌, ◌<◌, zero-le}
use native.Mathlib.Nat.{sub-zero, add-zero}
use native.Mathlib.Omega.{arith}
use lib.Dec.{eqb}
use borrow.Author.Tests.{eq-eqb, ne_eqb}
use Rattle.judge_spec.specs.First.{first}
use Rattle.judge_spec.proofs.FirstLaws.{stops, goes_on, ends}

-- the numbers from i to e pass
abbrev pub Pass : (ℕ → Bool) → ℕ → ℕ → Type 0
Pass passes i e = (j : ℕ) → i ≤ j → j < e → passes j ≡ true

pub record Walk (passes : ℕ → Bool) (n answer i : ℕ) : Type 0 where
  pub within : i ≤ n
  pub left : answer ≡ first passes i (n - i)

pub begins : (passes : ℕ → Bool) (n : ℕ) → Walk passes n (first passes 0 n) 0
begins passes n = record { within = zero-le; left = rw (sub-zero n) }

module _ {passes : ℕ → Bool} {n answer i : ℕ} (walk : Walk passes n answer i) where
  pub goes_past : i < n → passes i ≡ true → Walk passes n answer (i + 1)
  goes_past h e = record { within = omega arith; left = walk.left ∙ goes_on passes i n h e }

  pub finds : i < n → passes i ≡ false → i ≡ answer
  finds h e = sym (walk.left ∙ stops passes i n h e)

  pub finds_none : n ≤ i → i ≡ answer
  finds_none h = sym (walk.left ∙ ends passes i n h)

  -- whether none fails, and another test
  pub found_one : i < n → passes i ≡ false → (other : Bool) → false ≡ (eqb answer n && other)
  found_one h e other = rw (ne_eqb answer n (λ same. omega (arith, finds h e)))

  pub found_none : n ≤ i → (other : Bool) → other ≡ (eqb answer n && other)
  found_none h other = rw (eq-eqb answer n (omega (arith, finds_none h, walk.within)))

  -- as many at once as are tested together
  pub goes_past_all : (k : ℕ) → i + k ≤ n → Pass passes i (i + k) → Walk passes n answer (i + k)
  goes_past_all zero h all = rw (add-zero i) walk
  goes_past_all (suc k) h all =
      let next : i + suc k ≡ i + k + 1 = omega arith in
      rw next
      (record {
        within = omega arith;
        left = (goes_past_all k (omega arith) (λ j low high. all j low (omega arith))).left ∙ goes_on passes (i + k) n (omega arith) (all (i + k) (omega arith) (omega arith));
      })
