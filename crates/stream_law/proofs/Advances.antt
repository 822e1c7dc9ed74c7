-- Advances add up; entry i of the table is the pair of 2^i draws, and this is 2^i advances.
-- Assumes nothing.
use mathlib.Core.Path.{◌≡◌, refl, sym, ◌∙◌, ap}
use Prim.Native.Nat.{ℕ, zero, suc, ◌+◌, ◌^◌, ◌<◌}
use native.Mathlib.Omega.{arith}
use native.Mathlib.Nat.{pow-suc, zero-add, suc-add, add-zero, add-suc, le_of_suc-le-suc, not-suc-le-zero}
use lib.ListN.{get_or}
use Rattle.draw.specs.Draw.{advance}
use Rattle.stream_spec.specs.Stream.{advances}
use Rattle.stream_spec.specs.Pairs.{applied, doubled, pairs_from, table, pair_of}
use Rattle.stream_spec.specs.declared.Pair.{Pair}
use Rattle.stream_law.proofs.Modular.{composed}

pub advances_none : (s : ℕ) → advances 0 s ≡ s
unfolding advances
advances_none s = refl

pub advances_add : (a b s : ℕ) → advances (a + b) s ≡ advances a (advances b s)
unfolding advances
advances_add zero b s = rw (zero-add b)
advances_add (suc a) b s = rw (suc-add a b) (ap advance (advances_add a b s))

-- a state keeps to 64 bits
pub stays_whole : (n s : ℕ) → s < 2 ^ 64 → advances n s < 2 ^ 64
unfolding advances advance
stays_whole zero s h = h
stays_whole (suc n) s h = omega arith

-- the table at its entry i, counted from the pair of 2^k draws
from_pair : (n k i : ℕ) (d : Pair) → i < n → get_or (pairs_from (pair_of k) n) i d ≡ pair_of (k + i)
unfolding pairs_from pair_of
from_pair zero k i d h = absurd (not-suc-le-zero h)
from_pair (suc n) k zero d h = ap pair_of (sym (add-zero k))
from_pair (suc n) k (suc i) d h = from_pair n (suc k) i d (le_of_suc-le-suc h) ∙ ap pair_of (suc-add k i ∙ sym (add-suc k i))

pub entry : (i : ℕ) (d : Pair) → i < 64 → get_or table i d ≡ pair_of i
unfolding pair_of
entry i d h = from_pair 64 0 i d h ∙ ap pair_of (zero-add i)

pub pair_advances : (i s : ℕ) → applied (pair_of i) s ≡ advances (2 ^ i) s
unfolding pair_of doubled advances advance
pair_advances zero s = refl
pair_advances (suc i) s =
    let p = pair_of i in
    let sum : 2 ^ suc i ≡ 2 ^ i + 2 ^ i = pow-suc 2 i ∙ omega arith in
    sym (composed p.multiplier p.increment p.multiplier p.increment (2 ^ 64) s)
    ∙ ap (applied p) (pair_advances i s)
    ∙ pair_advances i (advances (2 ^ i) s)
    ∙ sym (advances_add (2 ^ i) (2 ^ i) s)
    ∙ ap (λ (n : ℕ). advances n s) (sym sum)
