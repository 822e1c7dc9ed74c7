-- The groups of an extension row's rules, by the comparisons that show them.
-- Assumes nothing.
use borrow.Author.Tests.{leb-true, ltb-true}
use mathlib.Core.Path.{◌≡◌, refl, sym, subst, ◌∙◌}
use mathlib.Core.Bool.{Bool, true, ◌&&◌, cond}
use mathlib.Core.List.{List, [], ◌∷◌, ◌++◌}
use Prim.Native.Nat.{ℕ, zero, suc, ◌%◌, ◌<◌}
use native.Mathlib.Omega.{arith}
use lib.Dec.{eqb, leb, ltb}
use lib.ListN.{length}
use Rattle.std.specs.List.{list_all}
use Rattle.word.specs.Word.{p, ◌+ₚ◌, ◌-ₚ◌, ◌*ₚ◌}
use Rattle.word.specs.Element.{◌⟨◌⟩, element, ◌+ₑ◌, ◌-ₑ◌, ◌·ₑ◌}
use Rattle.word.proofs.Lists.{◌∷≡◌}
use Rattle.word.proofs.WordLaws.{difference_self}
use Rattle.word.proofs.ElementLaws.{scale_zero, its_words}
use Rattle.word.proofs.Tests.{each}
use Rattle.rows.specs.declared.Ext.{Ext}
use Rattle.rules.specs.Given.{zero?, zero_element?}
use Rattle.rules.specs.Extension.{selected, comp_tail}
use Rattle.judge_ext.specs.ExtParts.{ext_lookups_then, bits_then, operates_then, accumulates_then, sames_then, steps_then}
use Rattle.judge_lookups.specs.Memory.{cell_is, held_are}
use Rattle.judge_lookups.proofs.Quick.{pass, shut_rule, same_rule, same_test, held_cells}

pub bit_rule : (x : ℕ) → leb x 1 ≡ true → zero? (x *ₚ (1 -ₚ x)) ≡ true
unfolding ◌-ₚ◌ ◌*ₚ◌
bit_rule zero e = refl
bit_rule (suc zero) e = refl
bit_rule (suc (suc x)) e = absurd (omega (arith, leb-true (suc (suc x)) 1 e))

pub all_bits : (x : Ext) → (leb x.be 1 && leb x.start 1 && leb x.add 1 && leb x.mul 1 && leb x.peq 1) ≡ true
    → (after : ℕ) → bits_then x after ≡ after
all_bits x e after =
    let t = each (leb x.be 1) (leb x.start 1 ∷ leb x.add 1 ∷ leb x.mul 1 ∷ leb x.peq 1 ∷ []) e in
    pass 1 (bit_rule x.be t.0)
    (pass 2 (bit_rule x.start t.1.0)
    (pass 3 (bit_rule x.add t.1.1.0)
    (pass 4 (bit_rule x.mul t.1.1.1.0)
    (pass 5 (bit_rule x.peq t.1.1.1.1) refl))))

module _ (x y : Ext) where
  abbrev last : ℕ → ℕ
  last after = cond (zero? (y.start *ₚ (x.len -ₚ 1))) after 17

  pub continues : (eqb (x.len -ₚ y.len) 1
      && eqb x.be y.be
      && eqb x.add y.add
      && eqb x.mul y.mul
      && eqb x.peq y.peq
      && eqb (y.idxA -ₚ x.idxA) (x.be +ₚ (1 -ₚ x.be) *ₚ 5)
      && eqb (y.idxB -ₚ x.idxB) 5)
      ≡ true
      → (inside after : ℕ) → sames_then inside x y (steps_then inside x y after) ≡ last after
  continues e inside after =
      let stride = x.be +ₚ (1 -ₚ x.be) *ₚ 5 in
      let t =
      each (eqb (x.len -ₚ y.len) 1)
      (eqb x.be y.be
      ∷ eqb x.add y.add
      ∷ eqb x.mul y.mul
      ∷ eqb x.peq y.peq
      ∷ eqb (y.idxA -ₚ x.idxA) (x.be +ₚ (1 -ₚ x.be) *ₚ 5)
      ∷ eqb (y.idxB -ₚ x.idxB) 5
      ∷ [])
      e in
      pass 10 (same_test inside (x.len -ₚ y.len) 1 t.0)
      (pass 11 (same_test inside x.be y.be t.1.0)
      (pass 12 (same_test inside x.add y.add t.1.1.0)
      (pass 13 (same_test inside x.mul y.mul t.1.1.1.0)
      (pass 14 (same_test inside x.peq y.peq t.1.1.1.1.0)
      (pass 15 (same_test inside (y.idxA -ₚ x.idxA) stride t.1.1.1.1.1.0)
      (pass 16 (same_test inside (y.idxB -ₚ x.idxB) 5 t.1.1.1.1.1.1) refl))))))

  -- the next row starts a group
  pub starts : y.start ≡ 1 → x.len ≡ 1 → sames_then (1 -ₚ y.start) x y (steps_then (1 -ₚ y.start) x y 0) ≡ 0
  starts s l =
      let inside = 1 -ₚ y.start in
      let z : inside ≡ 0 = rw (s, difference_self) in
      pass 10 (shut_rule inside (x.len -ₚ y.len -ₚ 1) z)
      (pass 11 (shut_rule inside (x.be -ₚ y.be) z)
      (pass 12 (shut_rule inside (x.add -ₚ y.add) z)
      (pass 13 (shut_rule inside (x.mul -ₚ y.mul) z)
      (pass 14 (shut_rule inside (x.peq -ₚ y.peq) z)
      (pass 15 (shut_rule inside (y.idxA -ₚ x.idxA -ₚ (x.be +ₚ (1 -ₚ x.be) *ₚ 5)) z)
      (pass 16 (shut_rule inside (y.idxB -ₚ x.idxB -ₚ 5) z)
      (pass 17 (same_rule y.start x.len 1 l) refl)))))))

  -- it doesn't
  pub goes_on : y.start ≡ 0 → ((inside after : ℕ) → sames_then inside x y (steps_then inside x y after) ≡ last after)
      → sames_then (1 -ₚ y.start) x y (steps_then (1 -ₚ y.start) x y 0) ≡ 0
  goes_on s all = all (1 -ₚ y.start) 0 ∙ pass 17 (shut_rule y.start (x.len -ₚ 1) s) refl

-- nothing is public
pub none_public : (public rest : List ℕ) → length public ≡ 0 → rest ≡ public ++ rest
none_public [] rest e = refl
none_public (byte ∷ public) rest e = absurd (omega (arith, e))

-- four lookups, where one buffer holds each of the fives
pub held_lookups : (public rest : List ℕ) (x : Ext) → length public % 4 ≡ 0
    → cell_is (public ++ rest) x.idxA x.base ≡ true
    → held_are public rest x.idxA x.vA ≡ true
    → held_are public rest x.idxB x.vB ≡ true
    → held_are public rest x.idxR x.res ≡ true
    → (after : ℕ) → ext_lookups_then (public ++ rest) x after ≡ after
held_lookups public rest x seam base left right result after =
    pass 18 base
    (pass 19 (held_cells public rest x.idxA x.vA seam left)
    (pass 20 (held_cells public rest x.idxB x.vB seam right)
    (pass 21 (held_cells public rest x.idxR x.res seam result) refl)))

-- rules 6 to 8 on a row with no operation
pub no_operation : (x y : Ext) (v tail : List ℕ) (after : ℕ) → x.add ≡ 0 → x.mul ≡ 0 → x.peq ≡ 0 → after ≡ operates_then x y v tail after
no_operation x y v tail after a m q = simp (a, m, q, scale_zero)

-- equal elements
pub same_elements : (flag : ℕ) (a b : List ℕ) → a ≡ b → zero_element? (flag ·ₑ (a -ₑ b)) ≡ true
unfolding ◌-ₑ◌ ◌·ₑ◌
same_elements flag a b e =
    rw (
      e,
      same_rule flag (b ⟨ 0 ⟩) (b ⟨ 0 ⟩) refl,
      same_rule flag (b ⟨ 1 ⟩) (b ⟨ 1 ⟩) refl,
      same_rule flag (b ⟨ 2 ⟩) (b ⟨ 2 ⟩) refl,
      same_rule flag (b ⟨ 3 ⟩) (b ⟨ 3 ⟩) refl,
      same_rule flag (b ⟨ 4 ⟩) (b ⟨ 4 ⟩) refl,
    )

-- rules 6 to 9 on a row with no operation whose running result is its result
pub nothing_done : (x : Ext) → x.add ≡ 0 → x.mul ≡ 0 → x.peq ≡ 0 → x.comp ≡ x.res
    → (y : Ext) (v tail : List ℕ) (after : ℕ) → accumulates_then x y v tail after ≡ after
nothing_done x a m q e y v tail after = sym (no_operation x y v tail _ a m q) ∙ pass 9 (same_elements x.start x.comp x.res e) refl

-- an element's rule, coordinate by coordinate
pub each_gated : (flag : ℕ) (a b : List ℕ) {h0 h1 h2 h3 h4 : Bool}
    → h0 ≡ zero? (flag *ₚ (a ⟨ 0 ⟩ -ₚ b ⟨ 0 ⟩))
    → h1 ≡ zero? (flag *ₚ (a ⟨ 1 ⟩ -ₚ b ⟨ 1 ⟩))
    → h2 ≡ zero? (flag *ₚ (a ⟨ 2 ⟩ -ₚ b ⟨ 2 ⟩))
    → h3 ≡ zero? (flag *ₚ (a ⟨ 3 ⟩ -ₚ b ⟨ 3 ⟩))
    → h4 ≡ zero? (flag *ₚ (a ⟨ 4 ⟩ -ₚ b ⟨ 4 ⟩))
    → (h0 && h1 && h2 && h3 && h4) ≡ zero_element? (flag ·ₑ (a -ₑ b))
unfolding ◌-ₑ◌ ◌·ₑ◌
each_gated flag a b e0 e1 e2 e3 e4 = rw (e0, e1, e2, e3, e4)

-- words that a flag of 0 or 1 leaves as they are
kept : (y a : ℕ) → a < p → a ≡ 0 *ₚ y +ₚ (1 -ₚ 0) *ₚ a
unfolding ◌+ₚ◌ ◌-ₚ◌ ◌*ₚ◌
kept y a h = omega arith

based : (y a : ℕ) → y < p → y ≡ 1 *ₚ y +ₚ (1 -ₚ 1) *ₚ a
unfolding ◌+ₚ◌ ◌-ₚ◌ ◌*ₚ◌
based y a h = omega arith

whole : (a : ℕ) → a < p → a ≡ (1 -ₚ 0) *ₚ a
unfolding ◌-ₚ◌ ◌*ₚ◌
whole a h = omega arith

-- five words that a test of each tells to be below p
both : {b c : Bool} → (b && c) ≡ true → (b ≡ true) × (c ≡ true)
both {b} {c} e = each b (c ∷ []) e

words_below : (a : List ℕ) → length a ≡ 5 → list_all (λ word. ltb word p) a ≡ true
    → (a ⟨ 0 ⟩ < p) × (a ⟨ 1 ⟩ < p) × (a ⟨ 2 ⟩ < p) × (a ⟨ 3 ⟩ < p) × (a ⟨ 4 ⟩ < p)
words_below a h e =
    let f : ℕ → Bool = λ word. ltb word p in
    let t0 = both {b = f (a ⟨ 0 ⟩)} (subst (λ (s : List ℕ). list_all f s ≡ true) (its_words a h) e) in
    let t1 = both {b = f (a ⟨ 1 ⟩)} t0.1 in
    let t2 = both {b = f (a ⟨ 2 ⟩)} t1.1 in
    let t3 = both {b = f (a ⟨ 3 ⟩)} t2.1 in
    let t4 = both {b = f (a ⟨ 4 ⟩)} t3.1 in
    (ltb-true _ _ t0.0, ltb-true _ _ t1.0, ltb-true _ _ t2.0, ltb-true _ _ t3.0, ltb-true _ _ t4.0)

pub own_tail : (y : Ext) → y.start ≡ 0 → length y.comp ≡ 5 → list_all (λ word. ltb word p) y.comp ≡ true → y.comp ≡ comp_tail y
unfolding ◌·ₑ◌
own_tail y z h e =
    let a = y.comp in
    let t = words_below a h e in
    its_words a h
    ∙ rw z
    (whole (a ⟨ 0 ⟩) t.0
    ∷≡ whole (a ⟨ 1 ⟩) t.1
    ∷≡ whole (a ⟨ 2 ⟩) t.2
    ∷≡ whole (a ⟨ 3 ⟩) t.3
    ∷≡ whole (a ⟨ 4 ⟩) t.4
    ∷≡ refl)

pub own_words : (x : Ext) → x.be ≡ 0 → length x.vA ≡ 5 → list_all (λ word. ltb word p) x.vA ≡ true → x.vA ≡ selected x
unfolding ◌+ₑ◌ ◌·ₑ◌
own_words x z h e =
    let a = x.vA in
    let t = words_below a h e in
    its_words a h
    ∙ rw z
    (kept x.base (a ⟨ 0 ⟩) t.0
    ∷≡ kept 0 (a ⟨ 1 ⟩) t.1
    ∷≡ kept 0 (a ⟨ 2 ⟩) t.2
    ∷≡ kept 0 (a ⟨ 3 ⟩) t.3
    ∷≡ kept 0 (a ⟨ 4 ⟩) t.4
    ∷≡ refl)

pub base_word : (x : Ext) → x.be ≡ 1 → x.base < p → element x.base ≡ selected x
unfolding ◌+ₑ◌ ◌·ₑ◌
base_word x o h =
    let a = x.vA in
    rw o
    (based x.base (a ⟨ 0 ⟩) h
    ∷≡ based 0 (a ⟨ 1 ⟩) (omega arith)
    ∷≡ based 0 (a ⟨ 2 ⟩) (omega arith)
    ∷≡ based 0 (a ⟨ 3 ⟩) (omega arith)
    ∷≡ based 0 (a ⟨ 4 ⟩) (omega arith)
    ∷≡ refl)
