-- Hex digits at places of a text: one more, none, or one that is no digit; and that sixteen fit 64 bits.
-- Assumes nothing.
use Prim.Native.Nat.{ℕ, suc, ◌+◌, ◌-◌, ◌*◌, ◌^◌, ◌≤◌, ◌<◌}
use mathlib.Core.Bool.{Bool, true, false}
use mathlib.Core.List.{List}
use mathlib.Core.Path.{◌≡◌}
use native.Mathlib.Nat.{add-zero, pow-le-pow_right, pow-suc}
use native.Mathlib.Numerals.{add-one}
use native.Mathlib.Omega.{arith}
use lib.Dec.{ltb, lit<}
use lib.ListN.{length, get_or, drop}
use Rattle.text_patterns.specs.Pattern.{parse, left}
use Rattle.text_patterns.specs.Fields.{digits}
use Rattle.text_patterns.proofs.Parsing.{parse_on, parse_stop, parse_end}
use Rattle.text_fields.specs.Digit.{hex_value}

-- k digits are read, and make x
module _ (text : List ℕ) (i k x : ℕ) (h : k < 16) where
  more : 16 - k ≡ suc (16 - (k + 1))
  more = omega arith

  abbrev Ok : ℕ → Bool
  Ok b = ltb (hex_value b) 16

  pub hex_end : length text ≤ i → parse (digits 16 hex_value (16 - k) x) (drop i text) ≡ left (drop i text)
  unfolding digits
  hex_end g = rw more (parse_end Ok (λ b. digits 16 hex_value (16 - (k + 1)) (16 * x + hex_value b)) text i g)

  module _ (g : i < length text) where
    pub hex_stop : ltb (hex_value (get_or text i 0)) 16 ≡ false → parse (digits 16 hex_value (16 - k) x) (drop i text) ≡ left (drop i text)
    unfolding digits
    hex_stop e = rw more (parse_stop Ok (λ b. digits 16 hex_value (16 - (k + 1)) (16 * x + hex_value b)) text i g e)

    pub hex_on : ltb (hex_value (get_or text i 0)) 16 ≡ true
        → parse (digits 16 hex_value (16 - k) x) (drop i text) ≡ parse (digits 16 hex_value (16 - (k + 1)) (16 * x + hex_value (get_or text i 0))) (drop (i + 1) text)
    unfolding digits
    hex_on e = rw more (parse_on Ok (λ b. digits 16 hex_value (16 - (k + 1)) (16 * x + hex_value b)) text i g e)

    -- the same where the digits stand from a place on
    pub hex_next : (at : ℕ) → at + k ≡ i → ltb (hex_value (get_or text (at + k) 0)) 16 ≡ true
        → parse (digits 16 hex_value (16 - k) x) (drop (at + k) text) ≡ parse (digits 16 hex_value (16 - (k + 1)) (16 * x + hex_value (get_or text (at + k) 0))) (drop (at + (k + 1)) text)
    hex_next at e d =
        let j : at + (k + 1) ≡ i + 1 = omega arith in
        rw (j, e) (hex_on (rw (← e) d))

  -- there is room for one digit more
  pub hex_room : x < 16 ^ k → x < 2 ^ 60
  hex_room small = omega (arith, pow-le-pow_right {n = 16} (lit< tt) {i = k} {j = 15} (omega arith))

  pub hex_small : (d : ℕ) → d < 16 → x < 16 ^ k → 16 * x + d < 16 ^ (k + 1)
  hex_small d b small = rw (add-one k) (omega (arith, pow-suc 16 k))

-- before the first digit all of them are left
pub hex_none_yet : (text : List ℕ) (at : ℕ) → parse (digits 16 hex_value 16 0) (drop at text) ≡ parse (digits 16 hex_value (16 - 0) 0) (drop (at + 0) text)
hex_none_yet text at = rw (add-zero at)
