-- What a lookup that fails found is what stood there: the laws of `found_under`, for any rules and lookups under their
-- numbers.
use mathlib.Core.Path.{◌≡◌, refl, sym, ap, ◌∙◌, subst}
use mathlib.Core.Logic.{◌⊎◌, inl, inr}
use mathlib.Core.Bool.{Bool, true, false, ◌&&◌, cond, true≢false}
use mathlib.Core.List.{List, [], ◌∷◌, ◌++◌}
use Prim.Native.Nat.{ℕ, zero, suc, ◌+◌, ◌≤◌, ◌<◌}
use native.Mathlib.Nat.{add-zero}
use native.Mathlib.Omega.{arith}
use lib.Dec.{leb, eqb}
use lib.ListN.{length, get_or}
use borrow.Author.Tests.{eqb-true, eqb-false, eq-eqb, ne_eqb, le-leb, lt-leb, lt-ltb, leb-true, leb-false}
use Rattle.word.specs.Element.{◌⟨◌⟩}
use Rattle.word.proofs.Tests.{eqb_same}
use Rattle.form.specs.declared.Instruction.{Instruction}
use Rattle.rows.specs.Rows.{five_words}
use Rattle.rows.specs.declared.Exec.{Exec}
use Rattle.rows.specs.declared.Ext.{Ext}
use Rattle.rules.specs.Given.{Given, looks_up, looks_up_five, Rule, rule}
use Rattle.rules.specs.Execution.{exec_rules}
use Rattle.rules.specs.Extension.{ext_rules}
use Rattle.rules.specs.Lookups.{Lookup, exec_lookups, ext_lookups, finding, differing, found_by, found_under}
use Rattle.judge_spec.specs.Refusal.{FirstFailing, Differs, OutOfRange, Stood}
use Rattle.judge_spec.specs.Shown.{hold_under, agrees, Covers}

stays_false : (b holds : Bool) {c : Bool} → c ≡ false → cond b (holds && c) c ≡ false
stays_false true true e = e
stays_false true false e = refl
stays_false false holds e = e

-- the rules under the number that is named do not hold
under_fails : (before after : List Rule) (n : ℕ) → hold_under (before ++ (rule n false ∷ after)) n ≡ false
under_fails [] after n = rw (eqb_same n)
under_fails (r ∷ rs) after n = stays_false (eqb r.number n) r.holds (under_fails rs after n)

named_fails : (rs : List Rule) (n : ℕ) → FirstFailing rs n → hold_under rs n ≡ false
named_fails rs n f = ap (λ (l : List Rule). hold_under l n) f.split ∙ under_fails f.before f.after n

module _ (g : Given) where
  module _ (addr v : ℕ) (vs : List ℕ) where
    here : addr + length (v ∷ vs) ≤ g.size → (v ≡ g.cell addr → ⊥) → Differs g addr (v ∷ vs) (g.cell addr) v
    here range other =
        record {
          index = 0;
          inside = omega arith;
          in_range = range;
          before = λ j h. absurd (omega arith);
          expected_is = ap g.cell (sym (add-zero addr));
          found_is = refl;
          differ = λ e. other (sym e);
        }

    later : {x y : ℕ} → v ≡ g.cell addr → Differs g (addr + 1) vs x y → Differs g addr (v ∷ vs) x y
    later same d =
        record {
          index = suc d.index;
          inside = omega (arith, d.inside);
          in_range = omega (arith, d.in_range);
          before = earlier;
          expected_is = d.expected_is ∙ ap g.cell (omega arith);
          found_is = d.found_is;
          differ = d.differ;
        }
      where
        earlier : (j : ℕ) → j < suc d.index → get_or (v ∷ vs) j 0 ≡ g.cell (addr + j)
        earlier zero h = same ∙ ap g.cell (sym (add-zero addr))
        earlier (suc j) h = d.before j (omega arith) ∙ ap g.cell (omega arith)

  -- a column that fails where every cell is below M has a word that differs
  differs : (addr : ℕ) (column : List ℕ) → addr + length column ≤ g.size → agrees g addr column ≡ false
      → Differs g addr column (differing g.cell addr column).expected (differing g.cell addr column).found
  differs addr [] range bad = absurd (true≢false bad)
  differs addr (v ∷ vs) range bad = by (differs (addr + 1) vs (omega arith)) (eqb v (g.cell addr)) refl
    where
      by : (let f = differing g.cell (addr + 1) vs in agrees g (addr + 1) vs ≡ false → Differs g (addr + 1) vs f.expected f.found)
          → (b : Bool) → eqb v (g.cell addr) ≡ b
          → (let f = cond b (differing g.cell (addr + 1) vs) (finding (g.cell addr) v) in Differs g addr (v ∷ vs) f.expected f.found)
      by on true e = later addr v vs (eqb-true v (g.cell addr) e) (on (rw (lt-ltb addr g.size (omega arith), e) at bad))
      by on false e = here addr v vs range (eqb-false v (g.cell addr) e)

  -- and the first that differs is the one found
  found_at_lem : (addr : ℕ) (column : List ℕ) (place : ℕ) → place < length column
      → ((j : ℕ) → j < place → get_or column j 0 ≡ g.cell (addr + j))
      → (get_or column place 0 ≡ g.cell (addr + place) → ⊥)
      → differing g.cell addr column ≡ finding (g.cell (addr + place)) (get_or column place 0)
  found_at_lem addr [] place inside before other = absurd (omega arith)
  found_at_lem addr (v ∷ vs) zero inside before other =
      let at : addr + 0 ≡ addr = add-zero addr in
      rw (at, ne_eqb v (g.cell addr) (rw at at other))
  found_at_lem addr (v ∷ vs) (suc k) inside before other =
      let at : addr + suc k ≡ addr + 1 + k = omega arith in
      rw (eq-eqb v (g.cell addr) (before 0 (omega arith) ∙ ap g.cell (add-zero addr)), at)
      (found_at_lem (addr + 1) vs k (omega arith) (λ j h. before (suc j) (omega arith) ∙ ap g.cell (omega arith)) (rw at at other))

  -- what is found of a column whose rule fails
  fails_so : (addr : ℕ) (column : List ℕ) → agrees g addr column ≡ false
      → (let f = found_by g.size g.cell addr column in
      Differs g addr column f.expected f.found ⊎ OutOfRange g addr column f.expected f.found)
  unfolding found_by
  fails_so addr column bad = by (leb (addr + length column) g.size) refl
    where
      by : (b : Bool) → leb (addr + length column) g.size ≡ b
          → (let f = cond b (differing g.cell addr column) (finding 0 0) in
          Differs g addr column f.expected f.found ⊎ OutOfRange g addr column f.expected f.found)
      by true e = inl (differs addr column (leb-true (addr + length column) g.size e) bad)
      by false e =
          inr (record { past = leb-false (addr + length column) g.size e; silent = record { expected_is = refl; found_is = refl } })

  differs_is : (addr : ℕ) (column : List ℕ) {x y : ℕ} → Differs g addr column x y → found_by g.size g.cell addr column ≡ finding x y
  unfolding found_by
  differs_is addr column d =
      rw (le-leb (addr + length column) g.size d.in_range, d.expected_is, d.found_is)
      (found_at_lem addr column d.index d.inside d.before (λ e. d.differ (d.expected_is ∙ sym e ∙ sym d.found_is)))

  out_is : (addr : ℕ) (column : List ℕ) {x y : ℕ} → OutOfRange g addr column x y → found_by g.size g.cell addr column ≡ finding x y
  unfolding found_by
  out_is addr column o =
      rw (lt-leb (addr + length column) g.size o.past, o.silent.expected_is, o.silent.found_is)

  stands_under : (rs : List Rule) (ls : List Lookup) (n : ℕ) → Covers g rs ls → hold_under rs n ≡ false
      → Stood g ls n (found_under g.size g.cell ls n).expected (found_under g.size g.cell ls n).found
  unfolding found_under
  stands_under rs [] n covers bad = record { expected_is = refl; found_is = refl }
  stands_under rs (l ∷ ls) n covers bad = by (stands_under rs ls n covers.1 bad) (eqb l.number n) refl
    where
      by : Stood g ls n (found_under g.size g.cell ls n).expected (found_under g.size g.cell ls n).found
          → (b : Bool) → eqb l.number n ≡ b
          → (let f = cond b (found_by g.size g.cell l.addr l.column) (found_under g.size g.cell ls n) in Stood g (l ∷ ls) n f.expected f.found)
      by on true e =
          let same : l.number ≡ n = eqb-true l.number n e in
          inl (same, fails_so l.addr l.column (sym covers.0 ∙ subst (λ m. hold_under rs m ≡ false) (sym same) bad))
      by on false e = inr (eqb-false l.number n e, on)

  pub stands : (rs : List Rule) (ls : List Lookup) (n : ℕ) → Covers g rs ls → FirstFailing rs n
      → Stood g ls n (found_under g.size g.cell ls n).expected (found_under g.size g.cell ls n).found
  stands rs ls n covers f = stands_under rs ls n covers (named_fails rs n f)

  -- nothing else stood there
  pub stood_is : (ls : List Lookup) (n : ℕ) {x y : ℕ} → Stood g ls n x y → found_under g.size g.cell ls n ≡ finding x y
  unfolding found_under
  stood_is [] n s = rw (s.expected_is, s.found_is)
  stood_is (l ∷ ls) n (inl (same, inl d)) = rw (eq-eqb l.number n same) (differs_is l.addr l.column d)
  stood_is (l ∷ ls) n (inl (same, inr o)) = rw (eq-eqb l.number n same) (out_is l.addr l.column o)
  stood_is (l ∷ ls) n (inr (other, s)) = rw (ne_eqb l.number n other) (stood_is ls n s)

  -- the rules of both tables
  pub exec_covers : (x y : Exec) (i : Instruction) → Covers g (exec_rules g x y i) (exec_lookups x)
  unfolding exec_rules
  exec_covers x y i = (refl, (refl, (refl, tt)))

  one_by_one : (a b c d e : Bool) → (a && b && c && d && e && true) ≡ (a && (b && (c && (d && (e && true)))))
  one_by_one false b c d e = refl
  one_by_one true false c d e = refl
  one_by_one true true false d e = refl
  one_by_one true true true false e = refl
  one_by_one true true true true e = refl

  five_agree : (addr : ℕ) (a : List ℕ) → (looks_up_five g addr a && true) ≡ agrees g addr (five_words a)
  five_agree addr a =
      let two : addr + 1 + 1 ≡ addr + 2 = omega arith in
      let three : addr + 2 + 1 ≡ addr + 3 = omega arith in
      let four : addr + 3 + 1 ≡ addr + 4 = omega arith in
      rw (two, three, four)
      (one_by_one (looks_up g addr (a ⟨ 0 ⟩)) (looks_up g (addr + 1) (a ⟨ 1 ⟩)) (looks_up g (addr + 2) (a ⟨ 2 ⟩))
      (looks_up g (addr + 3) (a ⟨ 3 ⟩)) (looks_up g (addr + 4) (a ⟨ 4 ⟩)))

  pub ext_covers : (x y : Ext) → Covers g (ext_rules g x y) (ext_lookups x)
  unfolding ext_rules
  ext_covers x y =
      (refl, (five_agree x.idxA x.vA, (five_agree x.idxB x.vB, (five_agree x.idxR x.res, tt))))
