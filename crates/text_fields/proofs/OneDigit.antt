-- One digit or letter of a range, at a place of a text.
-- Assumes nothing.
use Prim.Native.Nat.{ℕ, ◌+◌, ◌≤◌, ◌<◌}
use mathlib.Core.Bool.{Bool, true, false, ◌&&◌, ◌||◌}
use mathlib.Core.List.{List}
use mathlib.Core.Path.{◌≡◌, refl, ◌∙◌}
use native.Mathlib.Omega.{arith}
use borrow.Author.Tests.{lt-ltb}
use lib.Dec.{ltb, leb}
use lib.ListN.{length, get_or}
use Rattle.word.proofs.Tests.{cases}
use Rattle.text_patterns.specs.Pattern.{done, parse}
use Rattle.text_patterns.specs.Fields.{one}
use Rattle.text_patterns.proofs.Parsing.{parse_on, parse_stop, parse_end}
use Rattle.text_fields.specs.Field.{Reaches, Stops}
use Rattle.text_fields.proofs.Range.{outside, inside}

module _ (value : ℕ → ℕ) (low high : ℕ) (text : List ℕ) (at : ℕ) where
  abbrev Ok : ℕ → Bool
  Ok b = leb low (value b) && leb (value b) high

  pub no_byte : at ≤ length text → length text ≤ at → Stops (one value low high) text at at
  unfolding one
  no_byte i h = record { inside = i; read = parse_end Ok (λ b. done (value b)) text at h }

  module _ (d : ℕ) (h : at < length text) (e : d ≡ value (get_or text at 0)) where
    pub other_digit : ltb d low || ltb high d ≡ true → Stops (one value low high) text at at
    unfolding one
    other_digit o = record { inside = omega arith; read = parse_stop Ok (λ b. done (value b)) text at h (rw (← e) (outside low high d o)) }

    pub digit_read : ltb d low || ltb high d ≡ false → Reaches (one value low high) text at d (at + 1)
    unfolding one parse
    digit_read o = record { inside = omega arith; read = parse_on Ok (λ b. done (value b)) text at h (rw (← e) (inside low high d o)) ∙ rw e }

  -- a byte that is no digit of a base
  pub no_digit : (base : ℕ) → at < length text → high < base → base ≤ value (get_or text at 0) → Stops (one value low high) text at at
  no_digit base h small none =
      let d = value (get_or text at 0) in
      other_digit d h refl (cases (ltb d low) (λ t. rw t) (λ t. rw (t, lt-ltb high d (omega arith))))
