-- Document 01, "Marked numbers", first paragraph: one row for each marked case, what the definitions give beside what
-- the document says.
use Rattle.std.specs.Prelude.{ℕ, ◌-◌, List, [], ◌∷◌}
use Rattle.word.specs.Word.{p, ◌+ₚ◌, ◌*ₚ◌}
use Rattle.word.specs.Element.{element, ◌*ₑ◌, peqₑ}
use Rattle.draw.specs.Draw.{draw_of}
use Rattle.form.specs.Data.{data_of}

pub record Row : Type 0 where
  pub given : List ℕ
  pub stated : List ℕ

infix 3 ◌is◌
abbrev pub ◌is◌ : List ℕ → List ℕ → Row
g is s = record { given = g; stated = s }

abbrev pub number : ℕ → List ℕ
number x = x ∷ []

-- X, X^2 and X^4
abbrev pub X : List ℕ
X = 0 ∷ 1 ∷ 0 ∷ 0 ∷ 0 ∷ []

abbrev pub X² : List ℕ
X² = 0 ∷ 0 ∷ 1 ∷ 0 ∷ 0 ∷ []

abbrev pub X⁴ : List ℕ
X⁴ = 0 ∷ 0 ∷ 0 ∷ 0 ∷ 1 ∷ []

abbrev pub first_draw : ℕ → ℕ
first_draw seed = (draw_of (record { state = seed })).number

abbrev pub table : List Row
table =
    -- (p-1)+1 = 0
    (number ((p - 1) +ₚ 1) is number 0)
    -- (p-1)·(p-1) = 1
    ∷ (number ((p - 1) *ₚ (p - 1)) is number 1)
    -- X·X^4 = (1,0,p-1,0,0)
    ∷ (X *ₑ X⁴ is 1 ∷ 0 ∷ (p - 1) ∷ 0 ∷ 0 ∷ [])
    -- X^2·X^4 = (0,1,0,p-1,0)
    ∷ (X² *ₑ X⁴ is 0 ∷ 1 ∷ 0 ∷ (p - 1) ∷ 0 ∷ [])
    -- X^4·X^4 = (p-1,0,1,1,0)
    ∷ (X⁴ *ₑ X⁴ is (p - 1) ∷ 0 ∷ 1 ∷ 1 ∷ 0 ∷ [])
    -- peq of 2 and 3 is 8
    ∷ (peqₑ (element 2) (element 3) is 8 ∷ 0 ∷ 0 ∷ 0 ∷ 0 ∷ [])
    -- peq of 1 and 0 is 0
    ∷ (peqₑ (element 1) (element 0) is 0 ∷ 0 ∷ 0 ∷ 0 ∷ 0 ∷ [])
    -- data, by be, add, mul, peq, N: mul, be, N 4 is 138
    ∷ (number (data_of 1 0 1 0 4) is number 138)
    -- data: add, N 3 is 100
    ∷ (number (data_of 0 1 0 0 3) is number 100)
    -- data: peq, N 3 is 112
    ∷ (number (data_of 0 0 0 1 3) is number 112)
    -- first draw from seed 0
    ∷ (number (first_draw 0) is number 335903614)
    -- first draw from seed 1
    ∷ (number (first_draw 1) is number 1817669548)
    -- first draw from seed 4,294,967,296
    ∷ (number (first_draw 4294967296) is number 1620769451)
    ∷ []
