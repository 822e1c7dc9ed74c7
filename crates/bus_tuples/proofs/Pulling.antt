-- One extension row more: what it pulls is added. Rows that pull nothing add nothing.
-- Assumes nothing.
use mathlib.Core.Bool.{cond}
use mathlib.Core.Path.{◌≡◌}
use mathlib.Core.List.{List, []}
use Prim.Native.Nat.{ℕ, ◌+◌, ◌*◌, ◌≤◌, ◌<◌}
use native.Mathlib.Omega.{arith}
use Rattle.rows.specs.Rows.{ext_at}
use Rattle.rules.specs.Bus.{Tuple, same_tuple, pulled, pulls, pulled_to}
use Rattle.rules.specs.Sizes.{tables}
use Rattle.bus_tuples.proofs.Totals.{one_more, counts_none, total_stays}

-- how often row k pulls a tuple
abbrev pulls_of : List ℕ → Tuple → ℕ → ℕ
pulls_of ext σ k = cond (same_tuple (pulled (ext_at ext (120 * k))) σ) (pulls (ext_at ext (120 * k))) 0

pub pulls_none_lem : (ext : List ℕ) (σ : Tuple) (k : ℕ) → pulls (ext_at ext (120 * k)) ≡ 0
    → pulled_to (tables [] ext) σ (k + 1) ≡ pulled_to (tables [] ext) σ k
pulls_none_lem ext σ k none =
    let row = ext_at ext (120 * k) in
    omega (arith, one_more (pulls_of ext σ) k, counts_none (same_tuple (pulled row) σ) (pulls row) none)

pub pulls_one : (ext : List ℕ) (τ σ : Tuple) (k : ℕ) → pulls (ext_at ext (120 * k)) ≡ 1 → pulled (ext_at ext (120 * k)) ≡ τ
    → pulled_to (tables [] ext) σ (k + 1) ≡ pulled_to (tables [] ext) σ k + cond (same_tuple τ σ) 1 0
pulls_one ext τ σ k once tuple =
    let is : pulls_of ext σ k ≡ cond (same_tuple τ σ) 1 0 = λ i. cond (same_tuple (tuple i) σ) (once i) 0 in
    omega (arith, one_more (pulls_of ext σ) k, is)

pub pulls_stay : (ext : List ℕ) (σ : Tuple) (k s : ℕ) → k ≤ s → ((j : ℕ) → k ≤ j → j < s → pulls (ext_at ext (120 * j)) ≡ 0)
    → pulled_to (tables [] ext) σ s ≡ pulled_to (tables [] ext) σ k
pulls_stay ext σ k s low none =
    total_stays (pulls_of ext σ) k s low
    (λ j from below. counts_none (same_tuple (pulled (ext_at ext (120 * j))) σ) (pulls (ext_at ext (120 * j))) (none j from below))
