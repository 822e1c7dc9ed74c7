-- The pattern's texts are the labels of the recipes in range.
-- Assumes nothing.
use Prim.Native.Nat.{ℕ, ◌+◌, ◌*◌, ◌/◌, ◌%◌, ◌^◌, ◌≤◌, ◌<◌}
use mathlib.Core.Bool.{false}
use mathlib.Core.List.{List, [], ◌∷◌, ◌++◌, append_assoc, append-nil}
use mathlib.Core.Path.{◌≡◌, ap, sym}
use native.Mathlib.Omega.{arith}
use Rattle.lines.specs.Line.{digit, decimal}
use Rattle.text_patterns.specs.Pattern.{done, seq, Spelling}
use Rattle.text_patterns.specs.Fields.{lowest, digits, one, numeral, number}
use Rattle.text_patterns.proofs.Joined.{spelling_as, spelling_done, spelling_seq, spelling_lit}
use Rattle.text_patterns.proofs.Digits.{spelling_digits, spelling_one}
use Rattle.text_patterns.proofs.Number.{spelling_number}
use Rattle.text_fields.specs.Digit.{hex_value, decimal_value}
use Rattle.label.specs.Label.{InRange, hex_digit, hex_digits, version_text, seed_text, m_text, n_text, label_of}
use Rattle.label.specs.Reader.{recipe_of, from_n, from_m, from_seed, label}
use Rattle.label.specs.declared.Recipe.{Recipe}
use Rattle.text_fields.proofs.Decimals.{tens, decimal_is, one_digit, two_digits}
use Rattle.label.proofs.Digits.{hexes, hex_lowest}
use Rattle.label.proofs.Range.{version_low, version_high, m_low, m_high, n_low, n_high, in_ranges}

-- each field, as its reader knows it
pub spelling_n : Spelling false (number decimal_value 1 124 10) (λ x. (1 ≤ x) × (x ≤ 124)) (λ x. numeral digit x ++ (10 ∷ []))
unfolding decimal_value
spelling_n = spelling_number tens 1 124 10 (omega arith) (omega arith) (omega arith)

pub spelling_digit : (low high : ℕ) → low ≤ high → high < 10 → Spelling false (one decimal_value low high) (λ x. (low ≤ x) × (x ≤ high)) (λ x. digit x ∷ [])
spelling_digit = spelling_one tens

pub spelling_seed : Spelling false (digits 16 hex_value 16 0) (λ x. x / 16 ^ 16 ≡ 0) (lowest 16 hex_digit 16)
spelling_seed = spelling_digits hexes 16 0

-- what is left of a recipe from a field on, and its text
abbrev FromN : ℕ → ℕ → ℕ → Recipe → Type 0
FromN v seed m r = ((1 ≤ r.n) × (r.n ≤ 124)) × (recipe_of v seed m r.n ≡ r)

abbrev n_written : Recipe → List ℕ
n_written r = (10 ∷ n_text) ++ ((numeral digit r.n ++ (10 ∷ [])) ++ [])

from_n_lem : (v seed m : ℕ) → Spelling false (from_n v seed m) (FromN v seed m) n_written
unfolding from_n
from_n_lem v seed m =
    spelling_lit (10 ∷ n_text)
    (spelling_seq (λ n. done (recipe_of v seed m n)) (λ n r. recipe_of v seed m n ≡ r) (λ r. []) (λ r. r.n)
    (λ n r h e. ap (λ (x : Recipe). x.n) (sym e)) spelling_n (λ n h. spelling_done (recipe_of v seed m n)))

is_m : (v seed m : ℕ) (r : Recipe) → FromN v seed m r → r.m ≡ m
is_m v seed m r h = ap (λ (x : Recipe). x.m) (sym h.1)

abbrev FromUnits : ℕ → ℕ → ℕ → Recipe → Type 0
FromUnits v seed t r = ((0 ≤ r.m % 10) × (r.m % 10 ≤ 9)) × FromN v seed (10 * t + r.m % 10) r

abbrev FromM : ℕ → ℕ → Recipe → Type 0
FromM v seed r = ((1 ≤ r.m / 10) × (r.m / 10 ≤ 2)) × FromUnits v seed (r.m / 10) r

abbrev units_written : Recipe → List ℕ
units_written r = (digit (r.m % 10) ∷ []) ++ n_written r

abbrev m_written : Recipe → List ℕ
m_written r = (10 ∷ m_text) ++ ((digit (r.m / 10) ∷ []) ++ units_written r)

from_m_lem : (v seed : ℕ) → Spelling false (from_m v seed) (FromM v seed) m_written
unfolding from_m
from_m_lem v seed =
    spelling_lit (10 ∷ m_text)
    (spelling_seq (λ t. seq (one decimal_value 0 9) (λ u. from_n v seed (10 * t + u))) (FromUnits v seed) units_written (λ r. r.m / 10)
    (λ t r h i. omega (arith, is_m v seed (10 * t + r.m % 10) r i.1)) (spelling_digit 1 2 (omega arith) (omega arith))
    (λ t h. spelling_seq (λ u. from_n v seed (10 * t + u)) (λ u. FromN v seed (10 * t + u)) n_written (λ r. r.m % 10)
    (λ u r i j. omega (arith, is_m v seed (10 * t + u) r j)) (spelling_digit 0 9 (omega arith) (omega arith)) (λ u i. from_n_lem v seed (10 * t + u))))

abbrev FromSeed : ℕ → Recipe → Type 0
FromSeed v r = (r.seed / 16 ^ 16 ≡ 0) × FromM v r.seed r

abbrev seed_written : Recipe → List ℕ
seed_written r = (10 ∷ seed_text) ++ (lowest 16 hex_digit 16 r.seed ++ m_written r)

from_seed_lem : (v : ℕ) → Spelling false (from_seed v) (FromSeed v) seed_written
unfolding from_seed
from_seed_lem v =
    spelling_lit (10 ∷ seed_text)
    (spelling_seq (from_m v) (FromM v) m_written (λ r. r.seed)
    (λ seed r h i. ap (λ (x : Recipe). x.seed) (sym i.1.1.1)) spelling_seed (λ seed h. from_m_lem v seed))

abbrev All : Recipe → Type 0
All r = ((1 ≤ r.version) × (r.version ≤ 2)) × FromSeed r.version r

abbrev all_written : Recipe → List ℕ
all_written r = version_text ++ ((digit r.version ∷ []) ++ seed_written r)

all_fields : Spelling false label All all_written
unfolding label
all_fields =
    spelling_lit version_text
    (spelling_seq from_seed FromSeed seed_written (λ r. r.version)
    (λ v r h i. ap (λ (x : Recipe). x.version) (sym i.1.1.1.1)) (spelling_digit 1 2 (omega arith) (omega arith)) (λ v h. from_seed_lem v))

in_range : (r : Recipe) → All r → InRange r
in_range r h = record {
  bits = omega (arith, h.1.0);
  ranges = in_ranges r h.0 (omega (arith, h.1.1.0)) h.1.1.1.1.0;
}

from_range : (r : Recipe) → InRange r → All r
from_range r i =
    let v = i.ranges in
    let low = m_low r v in
    let high = m_high r v in
    let m : 10 * (r.m / 10) + r.m % 10 ≡ r.m = omega arith in (
      (version_low r v, version_high r v),
      (
        omega (arith, i.bits),
        (omega arith, (omega arith, ((n_low r v, n_high r v), rw m))),
      ),
    )

regroup : (v d s x m y n z : List ℕ)
    → v ++ (d ++ (((10 ∷ []) ++ s) ++ (x ++ (((10 ∷ []) ++ m) ++ (y ++ (((10 ∷ []) ++ n) ++ ((z ++ (10 ∷ [])) ++ [])))))))
    ≡ (v ++ (d ++ (10 ∷ []))) ++ ((s ++ x) ++ (10 ∷ [])) ++ (m ++ (y ++ (10 ∷ []))) ++ (n ++ (z ++ (10 ∷ [])))
regroup v d s x m y n z = simp (append_assoc, append-nil)

same_text : (r : Recipe) → All r → all_written r ≡ label_of r
unfolding label_of
same_text r h =
    rw (
      hex_lowest 16 r.seed,
      decimal_is r.n (omega (arith, h.1.1.1.1.0)),
      one_digit r.version (omega (arith, h.0)),
      two_digits r.m (omega (arith, h.1.1.0)) (omega (arith, h.1.1.0)),
    )
    (regroup version_text (digit r.version ∷ []) seed_text (hex_digits 16 r.seed) m_text (digit (r.m / 10) ∷ digit (r.m % 10) ∷ []) n_text (decimal r.n))

-- a label of either version is spelled by the pattern, and nothing else is
pub spelling_label : Spelling false label InRange label_of
spelling_label = spelling_as (λ r. (in_range r, from_range r)) same_text all_fields
