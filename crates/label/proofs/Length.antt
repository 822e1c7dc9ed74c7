-- How long a label is, and that a place is no further.
-- Assumes nothing.
use Prim.Native.Nat.{ℕ, zero, suc, ◌+◌, ◌/◌, ◌≤◌, ◌<◌}
use mathlib.Core.Bool.{true}
use mathlib.Core.List.{List, [], ◌∷◌, ◌++◌}
use mathlib.Core.Path.{◌≡◌, refl, ◌∙◌}
use native.Mathlib.Omega.{arith}
use lib.ListN.{length, length-append}
use Rattle.lines.specs.Line.{decimal}
use Rattle.text_patterns.specs.Place.{Place}
use Rattle.text_patterns.proofs.Law.{shared_most}
use Rattle.word.proofs.Tests.{by_order}
use Rattle.label.specs.Label.{ranged, label_of, hex_digits, version_text, seed_text, m_text, n_text}
use Rattle.label.specs.Reading.{Valid}
use Rattle.label.specs.declared.Recipe.{Recipe}
use Rattle.text_fields.proofs.Decimals.{one_digit, two_digits, three_digits}
use Rattle.label.proofs.Range.{version_high, m_low, m_high, n_high}

hex_length : (k x : ℕ) → length (hex_digits k x) ≡ k
unfolding hex_digits
hex_length zero x = refl
hex_length (suc k) x = rw (length-append, hex_length k (x / 16)) (omega arith)

lengths : (v d s x m y n z : List ℕ)
    → length ((v ++ (d ++ (10 ∷ []))) ++ ((s ++ x) ++ (10 ∷ [])) ++ (m ++ (y ++ (10 ∷ []))) ++ (n ++ (z ++ (10 ∷ []))))
    ≡ length v + (length d + 1) + (length s + length x + 1) + (length m + (length y + 1)) + (length n + (length z + 1))
lengths v d s x m y n z = simp length-append

module _ (r : Recipe) (h : ranged r ≡ true) where
  -- 34 bytes and the digits of n
  long : length (label_of r) ≡ 34 + length (decimal r.n)
  unfolding label_of
  long =
      lengths version_text (decimal r.version) seed_text (hex_digits 16 r.seed) m_text (decimal r.m) n_text (decimal r.n)
      ∙ rw (
        hex_length 16 r.seed,
        one_digit r.version (omega (arith, version_high r h)),
        two_digits r.m (m_low r h) (omega (arith, m_high r h)),
      )
      (omega arith)

  pub long_35 : r.n < 10 → length (label_of r) ≡ 35
  long_35 a = long ∙ rw (one_digit r.n a)

  pub long_36 : 10 ≤ r.n → r.n < 100 → length (label_of r) ≡ 36
  long_36 a b = long ∙ rw (two_digits r.n a b)

  pub long_37 : 100 ≤ r.n → length (label_of r) ≡ 37
  long_37 a = long ∙ rw (three_digits r.n a (omega (arith, n_high r h)))

  pub label_most : length (label_of r) ≤ 37
  label_most =
      by_order r.n 10 (λ a. omega (arith, long_35 a))
      (λ a. by_order r.n 100 (λ b. omega (arith, long_36 a b)) (λ b. omega (arith, long_37 b)))

-- a valid text is a label, and so at most as long as the longest
pub valid_most : {text : List ℕ} → Valid text → length text ≤ 37
valid_most v = rw v.2 at (label_most v.0 v.1.ranges)

pub place_most : {text : List ℕ} {k : ℕ} → Place Valid text k → k ≤ 37
place_most {text} p =
    let (w, valid, e) = p.attained in
    omega (arith, shared_most w text, valid_most valid)
