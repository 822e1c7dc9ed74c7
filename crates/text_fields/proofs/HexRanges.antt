-- The two ranges of hex digits, and a digit's value by its bits.
-- Assumes nothing.
use Prim.Native.Nat.{ℕ, ◌+◌, ◌-◌, ◌*◌, ◌/◌, ◌%◌, ◌<◌}
use mathlib.Core.Bool.{◌&&◌, ◌||◌}
use mathlib.Core.Path.{◌≡◌}
use native.Mathlib.Omega.{arith}
use lib.Dec.{leb, ltb}
use borrow.Author.Tests.{lt-ltb, le-ltb, le-leb, lt-leb}
use Rattle.word.proofs.Tests.{by_order}
use Rattle.text_fields.specs.Digit.{hex_value}

-- a byte is a hex digit where it is in one of the two ranges
pub hex_ranges : (b : ℕ) → (leb 48 b && ltb b 58) || (leb 97 b && ltb b 103) ≡ ltb (hex_value b) 16
unfolding hex_value
hex_ranges b =
    by_order b 48 (λ a. rw (lt-ltb b 48 a, lt-leb 48 b a, lt-leb 97 b (omega arith)))
    (λ a. by_order b 58 (λ c. rw (le-ltb b 48 a, le-leb 48 b a, lt-ltb b 58 c, lt-ltb (b - 48) 16 (omega arith)))
    (λ c. by_order b 97 (λ d. rw (le-ltb b 48 a, le-leb 48 b a, le-ltb b 58 c, lt-ltb b 97 d, lt-leb 97 b d))
    (λ d. by_order b 103
    (λ e. rw (
      le-ltb b 48 a,
      le-leb 48 b a,
      le-ltb b 58 c,
      le-ltb b 97 d,
      le-leb 97 b d,
      lt-ltb b 103 e,
      lt-ltb (b - 87) 16 (omega arith),
    ))
    (λ e. rw (le-ltb b 48 a, le-leb 48 b a, le-ltb b 58 c, le-ltb b 97 d, le-leb 97 b d, le-ltb b 103 e)))))

-- its value is its low four bits, and 9 more for a letter
pub hex_known : (b : ℕ) → hex_value b < 16 → b % 16 + 9 * (b / 64) ≡ hex_value b
unfolding hex_value
hex_known b =
    by_order b 48 (λ a. rw (lt-ltb b 48 a) (λ h. omega arith))
    (λ a. by_order b 58 (λ c. rw (le-ltb b 48 a, lt-ltb b 58 c) (λ h. omega arith))
    (λ c. by_order b 97 (λ d. rw (le-ltb b 48 a, le-ltb b 58 c, lt-ltb b 97 d) (λ h. omega arith))
    (λ d. by_order b 103 (λ e. rw (le-ltb b 48 a, le-ltb b 58 c, le-ltb b 97 d, lt-ltb b 103 e) (λ h. omega arith))
    (λ e. rw (le-ltb b 48 a, le-ltb b 58 c, le-ltb b 97 d, le-ltb b 103 e) (λ h. omega arith)))))
