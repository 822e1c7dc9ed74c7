-- Inner: what the programs' functions are handed.
-- Declared in src/: Recipe (label).
use Rattle.std.specs.Prelude.{ℕ, ◌+◌, ◌*◌, true, ◌≡◌}
use Rattle.label.specs.Label.{ranged}
use Rattle.label.specs.declared.Recipe.{Recipe}

-- a recipe that the programs take, and buffers as long as its four parts
pub record Spaces (r : Recipe) (program memory exec ext : ℕ) : Type 0 where
  pub inside : ranged r ≡ true
  pub ten : r.m ≡ 10
  pub program_long : program ≡ 48 * (r.n + 1)
  pub memory_long : memory ≡ 4096
  pub exec_long : exec ≡ 8192
  pub ext_long : ext ≡ 30720
