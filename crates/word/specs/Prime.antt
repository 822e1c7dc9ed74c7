-- Document 01, "Words and elements": that p is prime is shown. What prime means.
use Rattle.std.specs.Prelude.{◌≡◌, ℕ, ◌%◌, ◌<◌}

-- no number but 1 and n divides n
pub record Prime (n : ℕ) : Type 0 where
  pub above_one : 1 < n
  pub no_divisor : (d : ℕ) → 1 < d → d < n → n % d ≡ 0 → ⊥
