-- Document 01, "The machine, without flags"; draft 0.6.0, 2.5.2: what an extension instruction asks of the cells at A,
-- B and C.
-- Declared in src/: Op (form).
use Rattle.std.specs.Prelude.{ℕ, zero, suc, ◌+◌, ◌*◌, Bool, true, false, ◌&&◌, List, [], ◌∷◌, leb, eqb}
use Rattle.word.specs.Element.{◌⟨◌⟩, element, ◌+ₑ◌, ◌*ₑ◌, peqₑ}
use Rattle.form.specs.declared.Op.{Op}
use Rattle.form.specs.declared.Op.TheVariants.{Add, Mul, Peq}

-- the element in five cells from x on
abbrev pub element_at : (ℕ → ℕ) → ℕ → List ℕ
element_at cell x = cell x ∷ cell (x + 1) ∷ cell (x + 2) ∷ cell (x + 3) ∷ cell (x + 4) ∷ []

-- a_i: five cells from A + 5i, or with be the one cell A + i
abbrev pub left_at : (ℕ → ℕ) → Bool → ℕ → ℕ → List ℕ
left_at cell true a i = element (cell (a + i))
left_at cell false a i = element_at cell (a + 5 * i)

-- b_i: five cells from B + 5i
abbrev pub right_at : (ℕ → ℕ) → ℕ → ℕ → List ℕ
right_at cell b i = element_at cell (b + 5 * i)

-- with be the four cells after each a_i must exist too
abbrev pub left_span : Bool → ℕ → ℕ
left_span true n = n + 4
left_span false n = 5 * n

-- all cells of the N elements at A and at B, and the five at C, exist
abbrev pub cells_exist : ℕ → Bool → ℕ → ℕ → ℕ → ℕ → Bool
cells_exist size be n a b c = leb (a + left_span be n) size && leb (b + 5 * n) size && leb (c + 5) size

-- what is summed or multiplied
abbrev pub term_of : Op → List ℕ → List ℕ → List ℕ
term_of Add a b = a +ₑ b
term_of Mul a b = a *ₑ b
term_of Peq a b = peqₑ a b

-- sums for add and mul, a product for peq
abbrev pub joined : Op → List ℕ → List ℕ → List ℕ
joined Add t rest = t +ₑ rest
joined Mul t rest = t +ₑ rest
joined Peq t rest = t *ₑ rest

abbrev pub nothing : Op → List ℕ
nothing Add = element 0
nothing Mul = element 0
nothing Peq = element 1

-- the sum or product over n elements from number i on
abbrev pub extension_result : (ℕ → ℕ) → Op → Bool → ℕ → ℕ → ℕ → ℕ → List ℕ
extension_result cell op be a b i zero = nothing op
extension_result cell op be a b i (suc n) = joined op (term_of op (left_at cell be a i) (right_at cell b i)) (extension_result cell op be a b (suc i) n)

abbrev pub same_element : List ℕ → List ℕ → Bool
same_element x y =
    eqb (x ⟨ 0 ⟩) (y ⟨ 0 ⟩) && eqb (x ⟨ 1 ⟩) (y ⟨ 1 ⟩) && eqb (x ⟨ 2 ⟩) (y ⟨ 2 ⟩) && eqb (x ⟨ 3 ⟩) (y ⟨ 3 ⟩) && eqb (x ⟨ 4 ⟩) (y ⟨ 4 ⟩)
