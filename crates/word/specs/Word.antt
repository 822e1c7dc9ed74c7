-- Document 01, "Words and elements"; draft 0.6.0, 2.1: the prime p, and sums, differences and products modulo p.
-- A word is a number below p.
use Rattle.std.specs.Prelude.{ℕ, ◌+◌, ◌-◌, ◌*◌, ◌%◌, ◌<◌}

infixl 65 ◌+ₚ◌
infixl 65 ◌-ₚ◌
infixl 70 ◌*ₚ◌
-- 2^31 - 2^24 + 1
abbrev pub p : ℕ
p = 2130706433

abbrev pub IsWord : ℕ → Type 0
IsWord x = x < p

unfoldable pub ◌+ₚ◌ : ℕ → ℕ → ℕ
x +ₚ y = (x + y) % p

-- the number that y takes to x
unfoldable pub ◌-ₚ◌ : ℕ → ℕ → ℕ
x -ₚ y = (x + (p - y % p)) % p

unfoldable pub ◌*ₚ◌ : ℕ → ℕ → ℕ
x *ₚ y = x * y % p
