-- Where an extension row comes from: row j of the group of step r where k is filled r + j, and padding past the last
-- group. By induction on the steps left.
-- Assumes nothing.
use mathlib.Core.Path.{◌≡◌, refl, ap, ap₂}
use Prim.Native.Nat.{ℕ, zero, suc, ◌+◌, ◌-◌, ◌≤◌, ◌<◌}
use native.Mathlib.Nat.{add-zero, add-suc}
use native.Mathlib.Omega.{arith}
use borrow.Author.Tests.{lt-ltb, le-ltb}
use Rattle.word.proofs.Tests.{by_order}
use Rattle.machine.specs.Machine.{Machine, State}
use Rattle.tables.specs.Groups.{padding, length_at, step_row, ext_row_of, filled}

-- where row k lies among the groups of the steps below height
pub data Where (m : Machine) (state : ℕ → State) (height k : ℕ) : Type 0 where
  group : (r j : ℕ) → r < height → j < length_at m (state r) → k ≡ filled m state r + j → Where m state height k
  past : filled m state height ≤ k → Where m state height k

module _ (m : Machine) (state : ℕ → State) where
  pub filled_on : (r : ℕ) → filled m state (suc r) ≡ filled m state r + length_at m (state r)
  unfolding filled
  filled_on r = refl

  filled_none : filled m state 0 ≡ 0
  unfolding filled
  filled_none = refl

  grows_by : (r n : ℕ) → filled m state r ≤ filled m state (r + n)
  grows_by r zero = rw (add-zero r) (omega arith)
  grows_by r (suc n) = rw (add-suc r n) (omega (arith, filled_on (r + n), grows_by r n))

  pub filled_grows : (r r' : ℕ) → r ≤ r' → filled m state r ≤ filled m state r'
  filled_grows r r' h =
      let more : r + (r' - r) ≡ r' = omega arith in
      rw more at (grows_by r (r' - r))

  pub find : (height k : ℕ) → Where m state height k
  find zero k = past (omega (arith, filled_none))
  find (suc n) k =
      by_order k (filled m state (suc n))
      (λ high.
      by_order k (filled m state n) (λ low. earlier low (find n k))
      (λ low. group n (k - filled m state n) (omega arith) (omega (arith, filled_on n)) (omega arith)))
      past
    where
      earlier : k < filled m state n → Where m state n k → Where m state (suc n) k
      earlier low (group r j h l e) = group r j (omega arith) l e
      earlier low (past h) = absurd (omega arith)

  row_there : (n r k r' j : ℕ) → r ≤ r' → r' < r + n → j < length_at m (state r') → filled m state r + k ≡ filled m state r' + j
      → ext_row_of m state r n k ≡ step_row m (state r') j
  unfolding ext_row_of
  row_there zero r k r' j low high l e = absurd (omega arith)
  row_there (suc n) r k r' j low high l e =
      by_order r r'
      (λ lt.
      let d : length_at m (state r) ≤ k = omega (arith, filled_on r, filled_grows (suc r) r' lt) in
      rw (le-ltb k (length_at m (state r)) d) (row_there n (suc r) (k - length_at m (state r)) r' j lt (omega arith) l (omega (arith, filled_on r))))
      (λ ge.
      let same : r ≡ r' = omega arith in
      let i : k ≡ j = omega (arith, ap (filled m state) same) in
      let d : k < length_at m (state r) = omega (arith, ap (λ (x : ℕ). length_at m (state x)) same) in
      rw (lt-ltb k (length_at m (state r)) d) (ap₂ (λ (x y : ℕ). step_row m (state x) y) same i))

  row_beyond : (n r k : ℕ) → filled m state (r + n) ≤ filled m state r + k → ext_row_of m state r n k ≡ padding m.cell
  unfolding ext_row_of
  row_beyond zero r k h = refl
  row_beyond (suc n) r k h =
      let on : r + suc n ≡ suc r + n = omega arith in
      let all : filled m state (suc r + n) ≤ filled m state r + k = rw on at h in
      let d : length_at m (state r) ≤ k = omega (arith, filled_on r, grows_by (suc r) n) in
      rw (le-ltb k (length_at m (state r)) d) (row_beyond n (suc r) (k - length_at m (state r)) (omega (arith, filled_on r)))

  -- the rows of the whole table
  module _ (height k : ℕ) where
    pub row_of : (r j : ℕ) → r < height → j < length_at m (state r) → k ≡ filled m state r + j → ext_row_of m state 0 height k ≡ step_row m (state r) j
    row_of r j h l e = row_there height 0 k r j (omega arith) (omega arith) l (omega (arith, filled_none))

    pub row_past : filled m state height ≤ k → ext_row_of m state 0 height k ≡ padding m.cell
    row_past h =
        let all : 0 + height ≡ height = omega arith in
        row_beyond height 0 k (rw all (omega (arith, filled_none)))
