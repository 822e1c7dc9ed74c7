-- The rules that hold on a row say what Meaning has: each polynomial is read by its factor, 0 or 1.
-- Assumes nothing.
use mathlib.Core.Path.{◌≡◌, refl, sym, ◌∙◌}
use mathlib.Core.Bool.{Bool, true, false}
use mathlib.Core.List.{List, [], ◌∷◌}
use Prim.Native.Nat.{ℕ, ◌+◌, ◌≤◌, ◌<◌, ◌^◌}
use native.Mathlib.Omega.{arith}
use lib.Dec.{T, eqb, eqb→eq, lit<}
use Rattle.word.specs.Word.{p, IsWord, ◌+ₚ◌, ◌-ₚ◌, ◌*ₚ◌}
use Rattle.word.specs.Element.{◌⟨◌⟩, IsElement, ◌+ₑ◌, ◌*ₑ◌}
use Rattle.word.proofs.Lists.{◌∷≡◌}
use Rattle.word.proofs.WordLaws.{zero_or_one, equal_words, difference_word}
use Rattle.word.proofs.ElementLaws.{its_words, difference_element, product_element}
use Rattle.form.specs.Data.{bit}
use Rattle.form.specs.declared.Op.{Op}
use Rattle.form.specs.declared.Op.TheVariants.{Add, Mul, Peq}
use Rattle.rows.specs.declared.Ext.{Ext}
use Rattle.rules.specs.Given.{Given, zero?, looks_up, looks_up_five}
use Rattle.rules.specs.Extension.{ext_rules, selected, comp_tail}
use Rattle.rules.specs.Satisfies.{All}
use Rattle.machine.specs.Extension.{term_of, joined}
use Rattle.tables.specs.Groups.{left_index}
use Rattle.word.proofs.Tests.{apart}
use Rattle.run_steps.proofs.Operands.{looked}
use Rattle.run_groups.proofs.Words.{two_taken, one_factor, one_scale, equal_elements, two_elements_taken}
use Rattle.run_groups.proofs.Meaning.{RowWords, FiveCells, IsBit, Looked, Bits, flag_of, rest_of, GoesOn, Meaning}

five_cells : (g : Given) (addr : ℕ) (a : List ℕ) → IsElement a → T (looks_up_five g addr a) → FiveCells g addr a
five_cells g addr a ea t =
    let (t₀, (t₁, (t₂, (t₃, t₄)))) =
    apart (looks_up g addr (a ⟨ 0 ⟩)) (looks_up g (addr + 1) (a ⟨ 1 ⟩) ∷ looks_up g (addr + 2) (a ⟨ 2 ⟩) ∷ looks_up g (addr + 3) (a ⟨ 3 ⟩) ∷ looks_up g (addr + 4) (a ⟨ 4 ⟩) ∷ []) t in
    let last = looked g (addr + 4) (a ⟨ 4 ⟩) t₄ in
    record {
      exist = omega (arith, last.exists);
      hold =
          its_words a ea.five_long
          ∙ ((looked g _ _ t₀).holds ∷≡ (looked g _ _ t₁).holds ∷≡ (looked g _ _ t₂).holds ∷≡ (looked g _ _ t₃).holds ∷≡ last.holds ∷≡ refl);
    }

-- 1 - next(start) is 1 inside a group
inside : (s : ℕ) → s ≡ 0 → 1 -ₚ s ≡ 1
unfolding ◌-ₚ◌
inside s z = rw z

-- how far idxA goes: be + 5·(1 - be), modulo p
stride : (be : Bool) (b i j : ℕ) → b ≡ bit be → IsWord j → i + 5 < p → j -ₚ i -ₚ (b +ₚ (1 -ₚ b) *ₚ 5) ≡ 0 → j ≡ left_index be i 1
unfolding ◌+ₚ◌ ◌-ₚ◌ ◌*ₚ◌
stride true b i j e w small z = let z : j -ₚ i -ₚ 1 ≡ 0 = rw e at z in omega arith
stride false b i j e w small z = let z : j -ₚ i -ₚ 5 ≡ 0 = rw e at z in omega arith

five_on : (i j : ℕ) → IsWord j → i + 5 < p → j -ₚ i -ₚ 5 ≡ 0 → j ≡ i + 5
unfolding ◌-ₚ◌
five_on i j w small z = omega arith

is_bit : (x : ℕ) → IsWord x → T (zero? (x *ₚ (1 -ₚ x))) → IsBit x
is_bit x w t = zero_or_one x w (eqb→eq (x *ₚ (1 -ₚ x)) 0 t)

module _ (g : Given) (x y : Ext) (size : g.size ≤ 2 ^ 29) (wx : RowWords x) (wy : RowWords y) where
  lookups : All (ext_rules g x y) → Looked g x
  unfolding ext_rules
  lookups h =
      record {
        base = (looked g x.idxA x.base h.0).holds;
        vA = five_cells g x.idxA x.vA wx.vA h.1.0;
        vB = five_cells g x.idxB x.vB wx.vB h.1.1.0;
        res = five_cells g x.idxR x.res wx.res h.1.1.1.0;
      }

  all_bits : All (ext_rules g x y) → Bits x
  unfolding ext_rules
  all_bits h =
      let from-1 = h.1.1.1.1 in
      record {
        be = is_bit x.be wx.be from-1.0;
        start = is_bit x.start wx.start from-1.1.0;
        add = is_bit x.add wx.add from-1.1.1.0;
        mul = is_bit x.mul wx.mul from-1.1.1.1.0;
        peq = is_bit x.peq wx.peq from-1.1.1.1.1.0;
      }

  sums : All (ext_rules g x y) → (op : Op) → flag_of op x ≡ 1 → x.comp ≡ joined op (term_of op (selected x) x.vB) (rest_of op y)
  unfolding ext_rules
  sums h Add one =
      let rule-6 = h.1.1.1.1.1.1.1.1.1.0 in
      two_elements_taken x.comp (selected x +ₑ x.vB) (comp_tail y) wx.comp (one_scale x.add _ one (difference_element _ _) rule-6)
  sums h Mul one =
      let rule-7 = h.1.1.1.1.1.1.1.1.1.1.0 in
      two_elements_taken x.comp (selected x *ₑ x.vB) (comp_tail y) wx.comp (one_scale x.mul _ one (difference_element _ _) rule-7)
  sums h Peq one =
      let rule-8 = h.1.1.1.1.1.1.1.1.1.1.1.0 in
      equal_elements x.comp _ wx.comp (product_element _ _) (one_scale x.peq _ one (difference_element _ _) rule-8)

  going_on : All (ext_rules g x y) → y.start ≡ 0 → GoesOn x y
  unfolding ext_rules
  going_on h z =
      let from-10 = h.1.1.1.1.1.1.1.1.1.1.1.1.1 in
      let l = lookups h in
      record {
        len = two_taken x.len y.len 1 wx.len (left _ _ from-10.0);
        be = kept x.be y.be wx.be wy.be from-10.1.0;
        add = kept x.add y.add wx.add wy.add from-10.1.1.0;
        mul = kept x.mul y.mul wx.mul wy.mul from-10.1.1.1.0;
        peq = kept x.peq y.peq wx.peq wy.peq from-10.1.1.1.1.0;
        idxA = λ be e. stride be x.be x.idxA y.idxA e wy.idxA (omega arith) (left _ _ from-10.1.1.1.1.1.0);
        idxB = five_on x.idxB y.idxB wy.idxB (omega arith) (left _ _ from-10.1.1.1.1.1.1.0);
      }
    where
      left : (a b : ℕ) → T (zero? ((1 -ₚ y.start) *ₚ (a -ₚ b))) → a -ₚ b ≡ 0
      left a b t = one_factor (1 -ₚ y.start) (a -ₚ b) (inside y.start z) (difference_word a b) t

      kept : (a b : ℕ) → IsWord a → IsWord b → T (zero? ((1 -ₚ y.start) *ₚ (a -ₚ b))) → b ≡ a
      kept a b wa wb t = sym (equal_words a b wa wb (left a b t))

  pub read : All (ext_rules g x y) → Meaning g x y
  unfolding ext_rules
  read h =
      let from-9 = h.1.1.1.1.1.1.1.1.1.1.1.1 in
      record {
        looked = lookups h;
        bits = all_bits h;
        accumulates = sums h;
        ends_in_result = λ one.
            equal_elements x.comp x.res wx.comp wx.res (one_scale x.start _ one (difference_element _ _) from-9.0);
        goes_on = going_on h;
        ends = λ one.
            equal_words x.len 1 wx.len (lit< tt)
            (one_factor y.start _ one (difference_word _ _) from-9.1.1.1.1.1.1.1.1.0);
      }
