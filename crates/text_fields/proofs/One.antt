-- A field has one reading: the pattern's own.
-- Assumes nothing.
use Rattle.std.proofs.Common.{ℕ, ◌≡◌, sym, ap, ◌∙◌, List, drop, Result, Ok, Err}
use Rattle.text_patterns.specs.Pattern.{Pattern, lit, done, parse}
use Rattle.text_fields.specs.declared.Field.{Field}
use Rattle.text_fields.specs.declared.Stop.{Stop}
use Rattle.text_fields.specs.Field.{Read, Passed, read_as, passed_as}
use Rattle.text_fields.proofs.Standing.{place_left}

pub read_told : {A : Type 0} (f : Pattern A) (text : List ℕ) (at : ℕ) (r : Result (Field A) Stop) → Read f text at r → r ≡ read_as text (parse f (drop at text))
read_told f text at (Ok v) p = rw p.read (λ i. Ok (record { value = v.value; at = place_left text v.at p.inside i }))
read_told f text at (Err s) p = rw p.read (λ i. Err (record { at = place_left text s.at p.inside i }))

pub passed_told : (word text : List ℕ) (at : ℕ) (r : Result ℕ Stop) → Passed word text at r → r ≡ passed_as text (parse (lit word (done 0)) (drop at text))
passed_told word text at (Ok k) p = rw p.read (ap Ok (place_left text k p.inside))
passed_told word text at (Err s) p = rw p.read (λ i. Err (record { at = place_left text s.at p.inside i }))

pub read_one : {A : Type 0} (f : Pattern A) (text : List ℕ) (at : ℕ) (r s : Result (Field A) Stop) → Read f text at r → Read f text at s → r ≡ s
read_one f text at r s p q = read_told f text at r p ∙ sym (read_told f text at s q)

pub passed_one : (word text : List ℕ) (at : ℕ) (r s : Result ℕ Stop) → Passed word text at r → Passed word text at s → r ≡ s
passed_one word text at r s p q = passed_told word text at r p ∙ sym (passed_told word text at s q)
