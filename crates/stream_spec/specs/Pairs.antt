-- Document 02, M-106: the doubled multiplier and increment pairs.
-- Declared in src/: Pair (here).
use Rattle.std.specs.Prelude.{ℕ, zero, suc, ◌+◌, ◌*◌, ◌%◌, ◌^◌, List, [], ◌∷◌}
use Rattle.stream_spec.specs.declared.Pair.{Pair}

-- a pair applied to a state
abbrev pub applied : Pair → ℕ → ℕ
applied p s = (p.multiplier * s + p.increment) % 2 ^ 64

-- the pair of one draw, document 01's
abbrev pub draw_pair : Pair
draw_pair = record { multiplier = 6364136223846793005; increment = 1442695040888963407 }

-- the pair that is p applied twice
unfoldable pub doubled : Pair → Pair
doubled p =
    record {
      multiplier = p.multiplier * p.multiplier % 2 ^ 64;
      increment = (p.multiplier * p.increment + p.increment) % 2 ^ 64;
    }

-- n pairs from p on, each the one before it, doubled: the table's rule
unfoldable pub pairs_from : Pair → ℕ → List Pair
pairs_from p zero = []
pairs_from p (suc n) = p ∷ pairs_from (doubled p) n

-- the table: 64 pairs, the first of which is a draw's own
abbrev pub table : List Pair
table = pairs_from draw_pair 64

-- the pair of 2^i draws
unfoldable pub pair_of : ℕ → Pair
pair_of zero = draw_pair
pair_of (suc i) = doubled (pair_of i)
