-- Hex digits and their values undo one another; a seed's digits as a label has them and as a field has them.
-- Assumes nothing.
use Prim.Native.Nat.{ℕ, zero, suc, ◌+◌, ◌-◌, ◌/◌, ◌%◌, ◌<◌}
use mathlib.Core.List.{List, [], ◌∷◌, ◌++◌}
use mathlib.Core.Path.{◌≡◌, refl, ap, ◌∙◌}
use native.Mathlib.Omega.{arith}
use borrow.Author.Tests.{lt-ltb, le-ltb}
use Rattle.text_patterns.specs.Fields.{Digits, lowest}
use Rattle.word.proofs.Tests.{by_order}
use Rattle.text_patterns.proofs.Digits.{lowest_last}
use Rattle.text_fields.specs.Digit.{hex_value}
use Rattle.label.specs.Label.{hex_digit, hex_digits}

hex_value_lem : (d : ℕ) → d < 16 → hex_value (hex_digit d) ≡ d
unfolding hex_value
hex_value_lem d h =
    by_order d 10
    (λ a. rw (lt-ltb d 10 a, le-ltb (48 + d) 48 (omega arith), lt-ltb (48 + d) 58 (omega arith)) (omega arith))
    (λ a. rw (
      le-ltb d 10 a,
      le-ltb (87 + d) 48 (omega arith),
      le-ltb (87 + d) 58 (omega arith),
      le-ltb (87 + d) 97 (omega arith),
      lt-ltb (87 + d) 103 (omega arith),
    )
    (omega arith))

hex_digit_lem : (b : ℕ) → hex_value b < 16 → hex_digit (hex_value b) ≡ b
unfolding hex_value
hex_digit_lem b =
    by_order b 48 (λ a. rw (lt-ltb b 48 a) (λ h. omega arith))
    (λ a. by_order b 58
    (λ c. rw (le-ltb b 48 a, lt-ltb b 58 c) (λ h. rw (lt-ltb (b - 48) 10 (omega arith)) (omega arith)))
    (λ c. by_order b 97 (λ d. rw (le-ltb b 48 a, le-ltb b 58 c, lt-ltb b 97 d) (λ h. omega arith))
    (λ d. by_order b 103
    (λ e. rw (le-ltb b 48 a, le-ltb b 58 c, le-ltb b 97 d, lt-ltb b 103 e)
    (λ h. rw (le-ltb (b - 87) 10 (omega arith)) (omega arith)))
    (λ e. rw (le-ltb b 48 a, le-ltb b 58 c, le-ltb b 97 d, le-ltb b 103 e) (λ h. omega arith)))))

pub hexes : Digits 16 hex_digit hex_value
hexes = record { some = omega arith; value_byte = hex_value_lem; byte_value = hex_digit_lem }

-- the lowest digits, the last of them apart or the first
pub hex_lowest : (k x : ℕ) → lowest 16 hex_digit k x ≡ hex_digits k x
unfolding lowest hex_digits
hex_lowest zero x = refl
hex_lowest (suc k) x = lowest_last 16 hex_digit k x ∙ ap (λ (l : List ℕ). l ++ (hex_digit (x % 16) ∷ [])) (hex_lowest k (x / 16))
