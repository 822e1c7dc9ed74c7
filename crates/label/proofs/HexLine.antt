-- A number's hex digits, stored from the last to the first.
-- Assumes nothing.
use Prim.Native.Nat.{ℕ, suc, ◌-◌, ◌/◌, ◌%◌, ◌≤◌, ◌<◌}
use mathlib.Core.List.{List, ◌++◌}
use mathlib.Core.Path.{◌≡◌, ap, ◌∙◌}
use native.Mathlib.Omega.{arith}
use lib.ListN.{length, drop, set}
use lib.Seq.{append_snoc}
use Rattle.lines.proofs.Numbers.{stored}
use Rattle.label.specs.Label.{hex_digit, hex_digits}

module _ (bytes : List ℕ) (rest : ℕ) where
  one_more : (k : ℕ) → k < length bytes
      → hex_digits (suc k) rest ++ drop (suc k) bytes ≡ hex_digits k (rest / 16) ++ drop k (set bytes k (hex_digit (rest % 16)))
  unfolding hex_digits
  one_more k h =
      rw (stored bytes k (hex_digit (rest % 16)) h) (append_snoc (hex_digits k (rest / 16)) (hex_digit (rest % 16)) (drop (suc k) bytes))

  -- the digit before those that stand
  pub digit_stored : (i : ℕ) → 0 < i → i ≤ length bytes
      → hex_digits i rest ++ drop i bytes ≡ hex_digits (i - 1) (rest / 16) ++ drop (i - 1) (set bytes (i - 1) (hex_digit (rest % 16)))
  digit_stored i some h =
      let e : i ≡ suc (i - 1) = omega arith in
      ap (λ (k : ℕ). hex_digits k rest ++ drop k bytes) e ∙ one_more (i - 1) (omega arith)

  -- none is left
  pub all_stored : (i : ℕ) → i ≡ 0 → hex_digits i rest ++ drop i bytes ≡ bytes
  unfolding hex_digits
  all_stored i e = rw e
