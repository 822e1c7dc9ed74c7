-- Lemma 1 of draft 0.6.0, 3.5.5, from both sides: on row r of K rows, 1 ≤ len ≤ K - r. Backward from the last row,
-- which is paired with itself.
-- Assumes nothing.
use mathlib.Core.Path.{◌≡◌}
use mathlib.Core.Logic.{◌⊎◌, inl, inr}
use Prim.Native.Nat.{ℕ, zero, suc, ◌+◌, ◌-◌, ◌≤◌, ◌<◌, ◌^◌}
use native.Mathlib.Omega.{arith}
use Rattle.word.specs.Word.{IsWord, ◌+ₚ◌}
use Rattle.word.proofs.Tests.{by_order}
use Rattle.rows.specs.declared.Ext.{Ext}
use Rattle.rules.specs.Given.{Given, next}
use Rattle.rules.specs.Extension.{ext_rules}
use Rattle.rules.specs.Satisfies.{All}
use Rattle.run_groups.proofs.Meaning.{RowWords, IsBit, Meaning}
use Rattle.run_groups.proofs.Read.{read}
use Rattle.run_groups.proofs.Pairs.{next_inner, next_last, next_below}

-- an extension table of K rows over a memory, on which every rule holds
pub record ExtTable (g : Given) (K : ℕ) (ext : ℕ → Ext) : Type 0 where
  pub few_rows : K ≤ 2 ^ 20
  pub small_memory : g.size ≤ 2 ^ 29
  pub words : (r : ℕ) → r < K → RowWords (ext r)
  pub rules : (r : ℕ) → r < K → All (ext_rules g (ext r) (ext (next K r)))

no_count : (x : ℕ) → IsWord x → x ≡ x +ₚ 1 → ⊥
unfolding ◌+ₚ◌
no_count x w e = omega arith

pub count : (x y : ℕ) → y ≤ 2 ^ 20 → x ≡ y +ₚ 1 → x ≡ y + 1
unfolding ◌+ₚ◌
count x y small e = omega arith

module _ {g : Given} {K : ℕ} {ext : ℕ → Ext} (t : ExtTable g K ext) where
  -- what a row and its pair say
  pub meaning : (r : ℕ) → r < K → Meaning g (ext r) (ext (next K r))
  meaning r h = read g (ext r) (ext (next K r)) t.small_memory (t.words r h) (t.words (next K r) (next_below K r h)) (t.rules r h)

  last_meaning : (r : ℕ) → r + 1 ≡ K → Meaning g (ext r) (ext r)
  last_meaning r e = rw (next_last K r (omega arith)) at (meaning r (omega arith))

  pub inner_meaning : (r : ℕ) → r + 1 < K → Meaning g (ext r) (ext (r + 1))
  inner_meaning r h = rw (next_inner K r h) at (meaning r (omega arith))

  -- the last row starts a group
  pub last_start : (r : ℕ) → r + 1 ≡ K → (ext r).start ≡ 1
  last_start r e = go m.bits.start
    where
      m : Meaning g (ext r) (ext r)
      m = last_meaning r e

      go : IsBit (ext r).start → (ext r).start ≡ 1
      go (inl z) = absurd (no_count (ext r).len (t.words r (omega arith)).len (m.goes_on z).len)
      go (inr one) = one

  pub last_len : (r : ℕ) → r + 1 ≡ K → (ext r).len ≡ 1
  last_len r e = (last_meaning r e).ends (last_start r e)

  backward : (d r : ℕ) → r + suc d ≡ K → (1 ≤ (ext r).len) × (r + (ext r).len ≤ K)
  backward zero r e = let one = last_len r (omega arith) in omega arith
  backward (suc d) r e = go (meaning (r + 1) (omega arith)).bits.start (backward d (r + 1) (omega arith))
    where
      m : Meaning g (ext r) (ext (r + 1))
      m = inner_meaning r (omega arith)

      go : IsBit (ext (r + 1)).start → (1 ≤ (ext (r + 1)).len) × (r + 1 + (ext (r + 1)).len ≤ K) → (1 ≤ (ext r).len) × (r + (ext r).len ≤ K)
      go (inl z) rest =
          let one_more : (ext r).len ≡ (ext (r + 1)).len + 1 = count _ _ (omega (arith, t.few_rows)) (m.goes_on z).len in
          omega arith
      go (inr one) rest = let single : (ext r).len ≡ 1 = m.ends one in omega arith

  pub len_bounds : (r : ℕ) → r < K → (1 ≤ (ext r).len) × (r + (ext r).len ≤ K)
  len_bounds r h = backward (K - r - 1) r (omega arith)

  -- the row after a row starts a group, or is inside one
  pub ends_or_goes_on : (r : ℕ) → r < K → ((ext (next K r)).start ≡ 1) ⊎ ((r + 1 < K) × ((ext (r + 1)).start ≡ 0))
  ends_or_goes_on r h = by_order (r + 1) K (λ below. inner below (meaning (r + 1) below).bits.start) (λ end.
      let last : r + 1 ≡ K = omega arith in
      inl (rw (next_last K r end) (last_start r last)))
    where
      inner : (below : r + 1 < K) → IsBit (ext (r + 1)).start → ((ext (next K r)).start ≡ 1) ⊎ ((r + 1 < K) × ((ext (r + 1)).start ≡ 0))
      inner below (inl z) = inr (below, z)
      inner below (inr one) = inl (rw (next_inner K r below) one)
