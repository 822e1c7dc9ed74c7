-- The kind that a number picks, and what an extension's draws make.
-- Assumes nothing.
use mathlib.Core.Path.{◌≡◌}
use mathlib.Core.Bool.{Bool, true, false}
use Prim.Native.Nat.{ℕ, zero, suc, ◌≤◌, ◌<◌}
use native.Mathlib.Omega.{arith}
use borrow.Author.Tests.{ne_eqb}
use lib.Dec.{eqb, lit<}
use Rattle.word.specs.Element.{IsElement}
use Rattle.word.proofs.ElementLaws.{word_element, sum_element, product_element}
use Rattle.form.specs.Data.{data_word}
use Rattle.form.specs.declared.Kind.{Kind}
use Rattle.form.specs.declared.Kind.TheVariants as kinds
use Rattle.form.specs.declared.Op.{Op}
use Rattle.form.specs.declared.Op.TheVariants.{Add, Mul, Peq}
use Rattle.word.proofs.Tests.{by_test}
use Rattle.machine.specs.Extension.{extension_result}
use Rattle.maker_spec.specs.Made.{kind_picked, op_picked, be_picked, count_picked}

-- what holds of the five kinds holds of the one that is picked
pub by_kind : (P : Kind → Type 0) (kind c : ℕ) → P kinds.Add → P kinds.Mul → P kinds.Deref → P kinds.Jump
    → P (kinds.Extension (op_picked c) (be_picked c) (count_picked c)) → P (kind_picked kind c)
by_kind P kind c add mul deref jump extension =
    by_test P (eqb kind 0) (λ _. add)
    (λ _. by_test P (eqb kind 1) (λ _. mul) (λ _. by_test P (eqb kind 2) (λ _. deref) (λ _. by_test P (eqb kind 3) (λ _. jump) (λ _. extension))))

-- from 4 on it is an extension
pub picked_extension : (kind c : ℕ) → 4 ≤ kind → kind_picked kind c ≡ kinds.Extension (op_picked c) (be_picked c) (count_picked c)
picked_extension kind c h =
    rw (ne_eqb kind 0 (λ e. omega arith), ne_eqb kind 1 (λ e. omega arith), ne_eqb kind 2 (λ e. omega arith), ne_eqb kind 3 (λ e. omega arith))

-- a sum or product of elements is an element
pub result_element : (cell : ℕ → ℕ) (op : Op) (be : Bool) (a b i n : ℕ) → IsElement (extension_result cell op be a b i n)
result_element cell Add be a b i zero = word_element 0 (lit< tt)
result_element cell Mul be a b i zero = word_element 0 (lit< tt)
result_element cell Peq be a b i zero = word_element 1 (lit< tt)
result_element cell Add be a b i (suc n) = sum_element _ _
result_element cell Mul be a b i (suc n) = sum_element _ _
result_element cell Peq be a b i (suc n) = product_element _ _

-- the DATA of one or two elements is small
pub data_small : (op : Op) (be : Bool) (n : ℕ) → n ≤ 2 → data_word op be n < 128
data_small Add false n h = omega arith
data_small Add true n h = omega arith
data_small Mul false n h = omega arith
data_small Mul true n h = omega arith
data_small Peq false n h = omega arith
data_small Peq true n h = omega arith
