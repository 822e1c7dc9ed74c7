-- What document 01's machine asks of the memory at an extension step, as tests and as facts.
-- Assumes nothing.
use mathlib.Core.Path.{◌≡◌, refl, sym, ◌∙◌}
use mathlib.Core.Bool.{Bool}
use mathlib.Core.List.{List, [], ◌∷◌}
use Prim.Native.Nat.{ℕ, zero, suc, ◌+◌, ◌*◌, ◌≤◌}
use lib.Dec.{T, leb, leb→le, le→leb, eqb, eqb→eq, lit<}
use Rattle.word.specs.Element.{◌⟨◌⟩, IsElement}
use Rattle.word.proofs.Lists.{◌∷≡◌}
use Rattle.word.proofs.ElementLaws.{its_words, word_element, sum_element, product_element}
use Rattle.form.specs.declared.Op.{Op}
use Rattle.form.specs.declared.Op.TheVariants.{Add, Mul, Peq}
use Rattle.rules.specs.Given.{Given}
use Rattle.machine.specs.Extension.{element_at, left_span, cells_exist, joined, nothing, extension_result, same_element}
use Rattle.word.proofs.Tests.{apart, together, eqb_same}

-- the cells of n elements at a and b and of the result at c exist, and the result is at c
pub record Legal (g : Given) (op : Op) (be : Bool) (n a b c : ℕ) : Type 0 where
  pub exist : T (cells_exist g.size be n a b c)
  pub same : T (same_element (element_at g.cell c) (extension_result g.cell op be a b 0 n))

same_element_lem : (x y : List ℕ) → x ≡ y → T (same_element x y)
same_element_lem x y e = rw e (simp eqb_same tt)

equal_element : (x y : List ℕ) → IsElement y → T (same_element (x ⟨ 0 ⟩ ∷ x ⟨ 1 ⟩ ∷ x ⟨ 2 ⟩ ∷ x ⟨ 3 ⟩ ∷ x ⟨ 4 ⟩ ∷ []) y)
    → x ⟨ 0 ⟩ ∷ x ⟨ 1 ⟩ ∷ x ⟨ 2 ⟩ ∷ x ⟨ 3 ⟩ ∷ x ⟨ 4 ⟩ ∷ [] ≡ y
equal_element x y ey t =
    let (z₀, (z₁, (z₂, (z₃, z₄)))) = apart (eqb (x ⟨ 0 ⟩) (y ⟨ 0 ⟩)) (eqb (x ⟨ 1 ⟩) (y ⟨ 1 ⟩) ∷ eqb (x ⟨ 2 ⟩) (y ⟨ 2 ⟩) ∷ eqb (x ⟨ 3 ⟩) (y ⟨ 3 ⟩) ∷ eqb (x ⟨ 4 ⟩) (y ⟨ 4 ⟩) ∷ []) t in
    (eqb→eq _ _ z₀ ∷≡ eqb→eq _ _ z₁ ∷≡ eqb→eq _ _ z₂ ∷≡ eqb→eq _ _ z₃ ∷≡ eqb→eq _ _ z₄ ∷≡ refl)
    ∙ sym (its_words y ey.five_long)

nothing_element : (op : Op) → IsElement (nothing op)
nothing_element Add = word_element 0 (lit< tt)
nothing_element Mul = word_element 0 (lit< tt)
nothing_element Peq = word_element 1 (lit< tt)

joined_element : (op : Op) (x y : List ℕ) → IsElement (joined op x y)
joined_element Add x y = sum_element x y
joined_element Mul x y = sum_element x y
joined_element Peq x y = product_element x y

pub result_element : (cell : ℕ → ℕ) (op : Op) (be : Bool) (a b i n : ℕ) → IsElement (extension_result cell op be a b i n)
result_element cell op be a b i zero = nothing_element op
result_element cell op be a b i (suc n) = joined_element op _ _

-- the same as facts
pub record Facts (g : Given) (op : Op) (be : Bool) (n a b c : ℕ) : Type 0 where
  pub left_exists : a + left_span be n ≤ g.size
  pub right_exists : b + 5 * n ≤ g.size
  pub out_exists : c + 5 ≤ g.size
  pub holds : element_at g.cell c ≡ extension_result g.cell op be a b 0 n

module _ {g : Given} {op : Op} {be : Bool} {n a b c : ℕ} where
  pub legal : Facts g op be n a b c → Legal g op be n a b c
  legal f =
      record {
        exist =
            together (leb (a + left_span be n) g.size) (leb (b + 5 * n) g.size ∷ leb (c + 5) g.size ∷ [])
            (le→leb _ _ f.left_exists, (le→leb _ _ f.right_exists, le→leb _ _ f.out_exists));
        same = same_element_lem _ _ f.holds;
      }

  pub facts : Legal g op be n a b c → Facts g op be n a b c
  facts l =
      let (left, (right, out)) = apart (leb (a + left_span be n) g.size) (leb (b + 5 * n) g.size ∷ leb (c + 5) g.size ∷ []) l.exist in
      record {
        left_exists = leb→le _ _ left;
        right_exists = leb→le _ _ right;
        out_exists = leb→le _ _ out;
        holds = equal_element (element_at g.cell c) _ (result_element g.cell op be a b 0 n) l.same;
      }
