-- Labels and places byte for byte: document 01's own, and those of other versions.
-- Assumes nothing.
use Prim.Native.Nat.{ℕ, ◌≤◌}
use mathlib.Core.List.{List, [], ◌∷◌, ◌++◌}
use mathlib.Core.Path.{◌≡◌, refl}
use native.Mathlib.Omega.{arith}
use lib.ListN.{length, drop}
use Rattle.lines.specs.Line.{decimal_in, decimal, line}
use Rattle.text_patterns.specs.Pattern.{lit, seq, left, parse}
use Rattle.text_patterns.specs.Fields.{digits, one, number_from, number}
use Rattle.text_fields.specs.Digit.{hex_value, decimal_value}
use Rattle.label.specs.Label.{hex_digits, seed_text, m_text, n_text, label_of}
use Rattle.label.specs.Reading.{Reading, Reads}
use Rattle.label.specs.Reader.{from_n, from_m, from_seed, label, recipe_of, refused_at}
use Rattle.label.proofs.Read.{stopped_left, refuses}
use Rattle.label.proofs.Label.{reading_determined}

refused_by : (text : List ℕ) (i : ℕ) → i ≤ length text → parse label text ≡ left (drop i text) → (R : Reading) → Reads text R → R ≡ refused_at i
refused_by text i h e R p = reading_determined text R (refused_at i) p (refuses text i (stopped_left text i h e) refl)

-- version 1 is written as before there was another
pub first_label : (seed m n : ℕ)
    → label_of (recipe_of 1 seed m n)
    ≡ line (118 ∷ 61 ∷ 49 ∷ []) ++ line (seed_text ++ hex_digits 16 seed) ++ line (m_text ++ decimal m) ++ line (n_text ++ decimal n)
unfolding label_of decimal_in
first_label seed m n = refl

-- a label of version 2, byte for byte
pub second_label : label_of (recipe_of 2 0xfedcba9876543210 29 7)
    ≡ 118 ∷ 61 ∷ 50 ∷ 10 ∷ 115 ∷ 101 ∷ 101 ∷ 100 ∷ 61 ∷ 102 ∷ 101 ∷ 100 ∷ 99 ∷ 98 ∷ 97 ∷ 57 ∷ 56 ∷ 55 ∷ 54 ∷ 53 ∷ 52 ∷ 51 ∷ 50 ∷ 49 ∷ 48 ∷ 10 ∷ 109 ∷ 61 ∷ 50 ∷ 57 ∷ 10 ∷ 110 ∷ 61 ∷ 55 ∷ 10 ∷ []
unfolding label_of hex_digits decimal_in
second_label = refl

-- document 01's, n = 125: 35 bytes are shared with n = 12 and n = 120 to 124
abbrev pub document_text : List ℕ
document_text = 118 ∷ 61 ∷ 49 ∷ 10 ∷ 115 ∷ 101 ∷ 101 ∷ 100 ∷ 61 ∷ 48 ∷ 48 ∷ 48 ∷ 48 ∷ 48 ∷ 48 ∷ 48 ∷ 49 ∷ 50 ∷ 102 ∷ 102 ∷ 102 ∷ 102 ∷ 102 ∷ 102 ∷ 102 ∷ 10 ∷ 109 ∷ 61 ∷ 49 ∷ 48 ∷ 10 ∷ 110 ∷ 61 ∷ 49 ∷ 50 ∷ 53 ∷ 10 ∷ []

pub example_refused : (R : Reading) → Reads document_text R → R ≡ refused_at 35
unfolding parse lit seq digits one number_from number hex_value decimal_value from_n from_m from_seed label
example_refused = refused_by document_text 35 (omega arith) refl

-- the same of version 2
abbrev pub second_text : List ℕ
second_text = 118 ∷ 61 ∷ 50 ∷ 10 ∷ 115 ∷ 101 ∷ 101 ∷ 100 ∷ 61 ∷ 48 ∷ 48 ∷ 48 ∷ 48 ∷ 48 ∷ 48 ∷ 48 ∷ 49 ∷ 50 ∷ 102 ∷ 102 ∷ 102 ∷ 102 ∷ 102 ∷ 102 ∷ 102 ∷ 10 ∷ 109 ∷ 61 ∷ 49 ∷ 48 ∷ 10 ∷ 110 ∷ 61 ∷ 49 ∷ 50 ∷ 53 ∷ 10 ∷ []

pub example_second : (R : Reading) → Reads second_text R → R ≡ refused_at 35
unfolding parse lit seq digits one number_from number hex_value decimal_value from_n from_m from_seed label
example_second = refused_by second_text 35 (omega arith) refl

-- no label has version 3: two bytes are shared
abbrev pub third_text : List ℕ
third_text = 118 ∷ 61 ∷ 51 ∷ 10 ∷ 115 ∷ 101 ∷ 101 ∷ 100 ∷ 61 ∷ 48 ∷ 48 ∷ 48 ∷ 48 ∷ 48 ∷ 48 ∷ 48 ∷ 48 ∷ 48 ∷ 48 ∷ 48 ∷ 48 ∷ 48 ∷ 48 ∷ 48 ∷ 48 ∷ 10 ∷ 109 ∷ 61 ∷ 49 ∷ 48 ∷ 10 ∷ 110 ∷ 61 ∷ 49 ∷ 10 ∷ []

pub example_third : (R : Reading) → Reads third_text R → R ≡ refused_at 2
unfolding parse lit seq digits one number_from number hex_value decimal_value from_n from_m from_seed label
example_third = refused_by third_text 2 (omega arith) refl
