-- A program with an instruction of each kind is accepted: what refuses everything is no translation.
-- Assumes nothing.
use mathlib.Core.Path.{◌≡◌, refl}
use mathlib.Core.List.{List, [], ◌∷◌}
use Prim.Native.Nat.{ℕ}
use lib.ListN.{get_or}
use Rattle.word.specs.Bytes.{bytes_of, concatenated}
use Rattle.answer.specs.Answers.{Accepted}
use Rattle.judge_spec.specs.First.{first}
use Rattle.edition_machine.specs.Encoding.{encoded_at}
use Rattle.edition_spec.specs.Translatable.{translatable}
use Rattle.edition_spec.specs.Translated.{translate_answer}

-- 3 + m[fp + 5] = 8; 3 · fp = m[fp + 9]; m[m[fp + 1] + 2] = fp; a jump to itself. 7 is a dropped operand
abbrev pub four_words : List ℕ
four_words =
    3 ∷ 8 ∷ 5 ∷ 1 ∷ 1 ∷ 0 ∷ 1 ∷ 0 ∷ 0 ∷ 0 ∷ 0 ∷ 0 ∷ 0 ∷ 0
    ∷ 3 ∷ 9 ∷ 7 ∷ 1 ∷ 0 ∷ 1 ∷ 0 ∷ 1 ∷ 0 ∷ 0 ∷ 0 ∷ 0 ∷ 0 ∷ 0
    ∷ 1 ∷ 7 ∷ 2 ∷ 0 ∷ 1 ∷ 1 ∷ 0 ∷ 0 ∷ 1 ∷ 0 ∷ 0 ∷ 0 ∷ 0 ∷ 0
    ∷ 1 ∷ 3 ∷ 7 ∷ 1 ∷ 1 ∷ 1 ∷ 0 ∷ 0 ∷ 0 ∷ 1 ∷ 0 ∷ 0 ∷ 0 ∷ 0
    ∷ []

abbrev pub four_kinds : List ℕ
four_kinds = concatenated (λ k. bytes_of (get_or four_words k 0)) 56

pub four_accepted : translate_answer four_kinds 192 ≡ Accepted
unfolding translate_answer concatenated first encoded_at translatable
four_accepted = refl
