-- A byte's number among some letters: its first place, and that letters that differ are digits.
-- Assumes nothing.
use Prim.Native.Nat.{ℕ, ◌<◌}
use mathlib.Core.List.{List, [], ◌∷◌}
use mathlib.Core.Path.{◌≡◌, refl}
use native.Mathlib.Omega.{arith}
use lib.Dec.{eqb}
use lib.ListN.{length, get_or}
use borrow.Author.Tests.{lt-ltb, le-ltb, eqb-true}
use Rattle.std.specs.List.{position_or_len, position}
use Rattle.std.specs.Prelude.{◌==◌, Option}
use Rattle.word.proofs.Tests.{cases, by_order}
use Rattle.text_patterns.specs.Fields.{Digits}
use Rattle.text_fields.specs.Digit.{index_in, DigitOf}

-- a byte that is a letter is the letter of its number
pub letter_back : (letters : List ℕ) (b : ℕ) → index_in letters b < length letters → get_or letters (index_in letters b) 0 ≡ b
unfolding index_in
letter_back [] b h = absurd (omega arith)
letter_back (x ∷ xs) b h =
    cases (eqb x b) (λ e. rw e (eqb-true x b e))
    (λ e. rw e (letter_back xs b (let g = rw e at h in omega arith)))

-- letters that differ are the digits of a base
pub letters_differ : (letters : List ℕ) → 0 < length letters
    → ((d : ℕ) → d < length letters → index_in letters (get_or letters d 0) ≡ d)
    → Digits (length letters) (λ d. get_or letters d 0) (index_in letters)
letters_differ letters some differ = record { some = some; value_byte = differ; byte_value = letter_back letters }

-- the first place where a letter is a byte
index_is : (letters : List ℕ) (b : ℕ) → position_or_len (λ x. x == b) letters ≡ index_in letters b
unfolding index_in
index_is [] b = refl
index_is (x ∷ xs) b = cases (eqb x b) (λ e. rw e) (λ e. rw (e, index_is xs b) (omega arith))

pub first_place : (letters : List ℕ) (b : ℕ) (r : Option ℕ) → r ≡ position (λ x. x == b) letters → DigitOf (index_in letters) (length letters) b r
first_place letters b r e =
    rw (e, index_is letters b)
    (by_order (index_in letters b) (length letters) (λ h. rw (lt-ltb (index_in letters b) (length letters) h) (refl, h))
    (λ h. rw (le-ltb (index_in letters b) (length letters) h) h))
