-- Version 1 draws what document 01 has, every draw kept; any two versions other than 1 draw alike; a number that is
-- taken is one that is kept, or the ninth; and where every number is kept all versions draw alike.
-- Assumes nothing.
use mathlib.Core.Path.{◌≡◌, refl, sym, ap, ◌∙◌}
use mathlib.Core.Bool.{true, false}
use mathlib.Core.Logic.{◌⊎◌, inl, inr, ⊎_elim}
use Prim.Native.Nat.{ℕ, zero, suc, ◌+◌, ◌*◌, ◌/◌, ◌%◌, ◌^◌, ◌<◌}
use native.Mathlib.Omega.{arith}
use lib.Dec.{eqb}
use Rattle.word.specs.Word.{p}
use Rattle.word.proofs.Tests.{cases}
use Rattle.draw.specs.Draw.{advance}
use Rattle.maker_draws.specs.Drawn.{state_after, drawn, kept, again, after_cell, after_cells, draws_of}
use Rattle.maker_draws.specs.Plain.{plain_draws}
use Rattle.maker_draws.proofs.Again.{low}
use Rattle.maker_draws.proofs.Drawing.{drawn_more}

-- version 1 keeps every number
pub first_state : (seed k : ℕ) → after_cells 1 seed k ≡ state_after seed k
unfolding again after_cells state_after
first_state seed zero = refl
first_state seed (suc k) = ap advance (first_state seed k)

pub first_plain : (seed : ℕ) → draws_of 1 seed ≡ plain_draws seed
first_plain seed =
    let from : (j k : ℕ) → 32 + j ≡ k → drawn (after_cells 1 seed 32) j ≡ drawn seed k =
    λ j k e. rw (first_state seed 32) (drawn_more seed 32 j ∙ ap (drawn seed) e)
    in
    λ x. record {
      cell = λ k. first_state seed (suc k) x / 2 ^ 32 % p;
      kind = λ i. from (3 * i) (32 + 3 * i) refl x % 5;
      a = λ i. from (3 * i + 1) (33 + 3 * i) (omega arith) x % 32;
      c = λ i. from (3 * i + 2) (34 + 3 * i) (omega arith) x % 32;
    }

-- a first number below 2·p is cell 0 in every version
pub first_kept : (version seed : ℕ) → drawn seed 0 < 2 * p → (draws_of version seed).cell 0 ≡ drawn seed 0 % p
unfolding state_after after_cells
first_kept version seed h = ap (λ (x : ℕ). x % p) (sym (low version (advance seed) (drawn seed 0) 0 (after_cell version seed) refl refl h).0)

-- the state after a draw more, by its last draw or by its first
after_first : (s k : ℕ) → state_after (advance s) k ≡ state_after s (suc k)
unfolding state_after
after_first s zero = refl
after_first s (suc k) = ap advance (after_first s k)

module _ (version : ℕ) where
  taken_in : (k s : ℕ) → (kept version (again version k s / 2 ^ 32) ≡ true) ⊎ (again version k s ≡ state_after s k)
  unfolding again state_after
  taken_in zero s = inr refl
  taken_in (suc k) s =
      cases (kept version (s / 2 ^ 32)) (λ e. inl (rw (e, e)))
      (λ e. rw e (⊎_elim (λ h. inl h) (λ h. inr (h ∙ after_first s k)) (taken_in k (advance s))))

  -- the number taken for a cell is one that is kept, or the ninth
  pub taken : (s : ℕ) → (kept version (after_cell version s / 2 ^ 32) ≡ true) ⊎ (after_cell version s ≡ state_after s 9)
  taken s = ⊎_elim (λ h. inl h) (λ h. inr (h ∙ after_first s 8)) (taken_in 8 (advance s))

  -- where the first n numbers are kept, n cells take n draws
  pub all_kept : (seed n : ℕ) → ((k : ℕ) → k < n → kept version (drawn seed k) ≡ true) → after_cells version seed n ≡ state_after seed n
  unfolding again after_cells state_after
  all_kept seed zero h = refl
  all_kept seed (suc n) h = rw (all_kept seed n (λ k b. h k (omega arith)), h n (omega arith))

-- two versions that are not 1
module _ (v w : ℕ) (later-v : eqb v 1 ≡ false) (later-w : eqb w 1 ≡ false) (seed : ℕ) where
  again_alike : (k s : ℕ) → again v k s ≡ again w k s
  unfolding again
  again_alike zero s = refl
  again_alike (suc k) s = rw (later-v, later-w, again_alike k (advance s))

  pub state_alike : (k : ℕ) → after_cells v seed k ≡ after_cells w seed k
  unfolding after_cells
  state_alike zero = refl
  state_alike (suc k) = rw (state_alike k) (again_alike 8 (advance (after_cells w seed k)))

  pub later_alike : draws_of v seed ≡ draws_of w seed
  later_alike =
      λ x. record {
        cell = λ k. state_alike (suc k) x / 2 ^ 32 % p;
        kind = λ i. drawn (state_alike 32 x) (3 * i) % 5;
        a = λ i. drawn (state_alike 32 x) (3 * i + 1) % 32;
        c = λ i. drawn (state_alike 32 x) (3 * i + 2) % 32;
      }
