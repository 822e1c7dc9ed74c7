-- Inner: which part is of bad length, and what lengths that fit are.
use Rattle.std.specs.Prelude.{cond, ◌≡◌, ℕ, ◌*◌, ◌%◌, ◌≤◌, ◌^◌}
use Rattle.rules.specs.Sizes.{program_fits, memory_fits, exec_fits, ext_fits}

-- the lowest part of bad length, 0 where all four fit
abbrev pub bad_part : ℕ → ℕ → ℕ → ℕ → ℕ
bad_part program memory exec ext =
    cond (program_fits program) (cond (memory_fits memory) (cond (exec_fits exec) (cond (ext_fits ext) 0 4) 3) 2) 1

-- the bounds that the four lengths have once they are tested
pub record Fitting (program memory exec ext : ℕ) : Type 0 where
  pub program_rows : program % 48 ≡ 0
  pub program_short : program ≤ 48 * 2 ^ 20
  pub memory_short : memory ≤ 2 ^ 31
  pub exec_rows : exec % 32 ≡ 0
  pub exec_some : 32 ≤ exec
  pub exec_short : exec ≤ 2 ^ 30
  pub ext_rows : ext % 120 ≡ 0
  pub ext_some : 120 ≤ ext
  pub ext_short : ext ≤ 120 * 2 ^ 20
