-- Inner: a tuple as code holds it, and its hash.
-- Declared in src/: Sent (here).
use Rattle.std.specs.Prelude.{ℕ, ◌+◌, ◌*◌}
use Rattle.rules.specs.Bus.{Tuple}
use Rattle.bus_tuples.specs.declared.Sent.{Sent}

-- the code's tuple
abbrev pub tuple_of : Sent → Tuple
tuple_of s = record { aux = s.aux; left = s.left; right = s.right; out = s.out }

-- a number by which tuples are spread; any function of the tuple would do
unfoldable pub hash_of : Tuple → ℕ
hash_of σ = 668265263 * σ.aux + 1013904223 * σ.left + 374761393 * σ.right + 914744491 * σ.out
