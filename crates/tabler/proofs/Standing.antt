-- Which step's row stands where in the extension table: the groups one after the other, and padding past the last.
-- Assumes nothing.
use borrow.Author.Tests.{lt-ltb, le-ltb}
use mathlib.Core.Path.{◌≡◌, refl, sym, ap, ◌∙◌}
use Prim.Native.Nat.{ℕ, zero, suc, ◌+◌, ◌-◌, ◌<◌}
use native.Mathlib.Nat.{add-zero, zero-add}
use native.Mathlib.Omega.{arith}
use Rattle.machine.specs.Machine.{Machine, State}
use Rattle.tables.specs.Groups.{padding, length_at, step_row, ext_row_of, filled}

module _ (m : Machine) (state : ℕ → State) where
  -- the rows that d steps from step i on fill
  abbrev spanned : ℕ → ℕ → ℕ
  spanned i zero = 0
  spanned i (suc d) = length_at m (state i) + spanned (suc i) d

  one_more : (d i : ℕ) → spanned i (suc d) ≡ spanned i d + length_at m (state (i + d))
  one_more zero i = rw (add-zero i) (omega arith)
  one_more (suc d) i =
      let e : suc i + d ≡ i + suc d = omega arith in
      let next : spanned (suc i) (suc d) ≡ spanned (suc i) d + length_at m (state (i + suc d)) = rw e at (one_more d (suc i)) in
      omega arith

  filled_spanned : (d : ℕ) → filled m state d ≡ spanned 0 d
  unfolding filled
  filled_spanned zero = refl
  filled_spanned (suc d) = ap (λ (n : ℕ). n + length_at m (state d)) (filled_spanned d) ∙ sym (rw (zero-add d) at (one_more d 0))

  -- past the rows of d steps the table is that of the steps after them
  past : (d i n k : ℕ) → ext_row_of m state i (d + n) (spanned i d + k) ≡ ext_row_of m state (i + d) n k
  unfolding ext_row_of
  past zero i n k = rw (add-zero i, zero-add n, zero-add k)
  past (suc d) i n k =
      let len = length_at m (state i) in
      let rest : len + spanned (suc i) d + k - len ≡ spanned (suc i) d + k = omega arith in
      let e : suc i + d ≡ i + suc d = omega arith in
      let more : suc d + n ≡ suc (d + n) = omega arith in
      rw (more, le-ltb (len + spanned (suc i) d + k) len (omega arith), rest) (rw e at (past d (suc i) n k))

  module _ (height : ℕ) where
    pub of_step : (r j : ℕ) → r < height → j < length_at m (state r) → ext_row_of m state 0 height (filled m state r + j) ≡ step_row m (state r) j
    unfolding ext_row_of
    of_step r j h b =
        let e : height ≡ r + suc (height - suc r) = omega arith in
        rw (filled_spanned r) (ap (λ (n : ℕ). ext_row_of m state 0 n (spanned 0 r + j)) e ∙ past r 0 (suc (height - suc r)) j ∙ rw (zero-add r, lt-ltb j (length_at m (state r)) b))

    pub past_last : (j : ℕ) → ext_row_of m state 0 height (filled m state height + j) ≡ padding m.cell
    unfolding ext_row_of
    past_last j =
        let e : height ≡ height + 0 = omega arith in
        rw (filled_spanned height) (ap (λ (n : ℕ). ext_row_of m state 0 n (spanned 0 height + j)) e ∙ past height 0 0 j)
