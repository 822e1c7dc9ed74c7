-- Document 02, M-103: how evenly a cell is drawn. A draw is one of the 2^32 numbers below 2^32. Counted are those that
-- a version keeps, and those of them that give a cell one value.
use Rattle.std.specs.Prelude.{◌≡◌, Bool, false, cond, ◌&&◌, ℕ, zero, suc, ◌+◌, ◌*◌, ◌%◌, ◌^◌, ltb, eqb}
use Rattle.word.specs.Word.{p, IsWord}
use Rattle.maker_draws.specs.Drawn.{kept}

-- how many numbers below n pass a test
unfoldable pub count_below : (ℕ → Bool) → ℕ → ℕ
count_below test zero = 0
count_below test (suc n) = count_below test n + cond (test n) 1 0

-- the numbers that a version keeps
abbrev pub kept_numbers : ℕ → ℕ
kept_numbers version = count_below (kept version) (2 ^ 32)

-- those of them that give the value r
abbrev pub numbers_for : ℕ → ℕ → ℕ
numbers_for version r = count_below (λ number. kept version number && eqb (number % p) r) (2 ^ 32)

pub record Even : Type 0 where
  -- version 1: values below 33,554,430 come from three draws and the others from two
  pub first_uneven : (r : ℕ) → IsWord r → numbers_for 1 r ≡ cond (ltb r 33554430) 3 2
  -- later versions keep 2·p numbers, two for each value
  pub later_kept : (version : ℕ) → eqb version 1 ≡ false → kept_numbers version ≡ 2 * p
  pub later_even : (version : ℕ) → eqb version 1 ≡ false → (r : ℕ) → IsWord r → numbers_for version r ≡ 2
