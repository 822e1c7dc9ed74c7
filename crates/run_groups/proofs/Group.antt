-- A row with a flag set folds the elements from its own on, as many as its len says: by induction on len, since the
-- next row either goes on with one less or starts a group, and then nothing is left.
-- Assumes nothing.
use mathlib.Core.Path.{◌≡◌, refl, sym, ◌∙◌, ap, ap₂}
use mathlib.Core.Logic.{◌⊎◌, inl, inr}
use mathlib.Core.Bool.{Bool, true, false}
use mathlib.Core.List.{List}
use Prim.Native.Nat.{ℕ, zero, suc, ◌+◌, ◌*◌, ◌≤◌, ◌<◌}
use native.Mathlib.Omega.{arith}
use Rattle.form.specs.Data.{bit}
use Rattle.form.specs.declared.Op.{Op}
use Rattle.form.specs.declared.Op.TheVariants.{Add, Mul, Peq}
use Rattle.rows.specs.declared.Ext.{Ext}
use Rattle.rules.specs.Given.{Given, next}
use Rattle.rules.specs.Extension.{selected}
use Rattle.machine.specs.Extension.{element_at, left_at, right_at, left_span, term_of, joined, nothing, extension_result}
use Rattle.tables.specs.Groups.{left_index}
use Rattle.run_groups.proofs.Legal.{Legal, legal}
use Rattle.run_groups.proofs.Meaning.{GoesOn, flag_of}
use Rattle.run_groups.proofs.Lengths.{ExtTable, meaning, inner_meaning, len_bounds, count, ends_or_goes_on}
use Rattle.run_groups.proofs.Fold.{rest_inside, rest_end, selected_left}

-- comp is the fold of n elements from number j on, and their cells exist
pub record Folds (g : Given) (op : Op) (be : Bool) (a b j n : ℕ) (x : Ext) : Type 0 where
  pub comp : x.comp ≡ extension_result g.cell op be a b j n
  pub left_exists : x.idxA + left_span be n ≤ g.size
  pub right_exists : x.idxB + 5 * n ≤ g.size

-- row y goes on with row x's group: one element less, the same operation, and comp joins x's own term to y's
pub record Inside (x y : Ext) : Type 0 where
  pub len : x.len ≡ y.len + 1
  pub kept : GoesOn x y
  pub comp : (op : Op) → flag_of op x ≡ 1 → x.comp ≡ joined op (term_of op (selected x) x.vB) y.comp

-- row x is its group's last
pub record Ended (x : Ext) : Type 0 where
  pub len : x.len ≡ 1
  pub comp : (op : Op) → flag_of op x ≡ 1 → x.comp ≡ joined op (term_of op (selected x) x.vB) (nothing op)

flag_kept : (op : Op) (x y : Ext) → GoesOn x y → flag_of op y ≡ flag_of op x
flag_kept Add x y on = on.add
flag_kept Mul x y on = on.mul
flag_kept Peq x y on = on.peq

index_on : (be : Bool) (a j i i' : ℕ) → i ≡ left_index be a j → i' ≡ left_index be i 1 → i' ≡ left_index be a (suc j)
index_on true a j i i' e e' = omega arith
index_on false a j i i' e e' = omega arith

span_on : (be : Bool) (i i' n size : ℕ) → i' ≡ left_index be i 1 → i' + left_span be n ≤ size → i + left_span be (suc n) ≤ size
span_on true i i' n size e h = omega arith
span_on false i i' n size e h = omega arith

span_one : (be : Bool) → left_span be 1 ≡ 5
span_one true = refl
span_one false = refl

index_zero : (be : Bool) (i : ℕ) → i ≡ left_index be i 0
index_zero true i = omega arith
index_zero false i = omega arith

module _ {g : Given} {K : ℕ} {ext : ℕ → Ext} (t : ExtTable g K ext) where
  pub inside : (r : ℕ) → r + 1 < K → (ext (r + 1)).start ≡ 0 → Inside (ext r) (ext (r + 1))
  inside r h z =
      let m = inner_meaning t r h in
      record {
        len = count (ext r).len (ext (r + 1)).len (omega (arith, t.few_rows, len_bounds t (r + 1) h)) (m.goes_on z).len;
        kept = m.goes_on z;
        comp = λ op f. m.accumulates op f ∙ ap (joined op _) (rest_inside op (ext (r + 1)) (t.words (r + 1) h).comp z);
      }

  pub ended : (r : ℕ) → r < K → (ext (next K r)).start ≡ 1 → Ended (ext r)
  ended r h one =
      let m = meaning t r h in
      record {
        len = m.ends one;
        comp = λ op f. m.accumulates op f ∙ ap (joined op _) (rest_end op (ext (next K r)) one);
      }

  module _ (op : Op) (be : Bool) (a b : ℕ) where
    -- the row's own term is that of a_j and b_j
    own : (r j : ℕ) → r < K → (ext r).be ≡ bit be → (ext r).idxA ≡ left_index be a j → (ext r).idxB ≡ b + 5 * j
        → term_of op (selected (ext r)) (ext r).vB ≡ term_of op (left_at g.cell be a j) (right_at g.cell b j)
    own r j h e eA eB =
        let l = (meaning t r h).looked in
        ap₂ (term_of op)
        (selected_left g.cell be a j (ext r) (t.words r h) e (l.base ∙ ap g.cell eA) (l.vA.hold ∙ ap (element_at g.cell) eA))
        (l.vB.hold ∙ ap (element_at g.cell) eB)

    last_row : (r j : ℕ) → r < K → (ext (next K r)).start ≡ 1 → flag_of op (ext r) ≡ 1 → (ext r).be ≡ bit be
        → (ext r).idxA ≡ left_index be a j → (ext r).idxB ≡ b + 5 * j → Folds g op be a b j 1 (ext r)
    last_row r j h one f e eA eB =
        let l = (meaning t r h).looked in
        let span = span_one be in
        record {
          comp = (ended r h one).comp op f ∙ ap (λ (x : List ℕ). joined op x (nothing op)) (own r j h e eA eB);
          left_exists = omega (arith, l.vA.exist);
          right_exists = omega (arith, l.vB.exist);
        }

    inner_row : (r j m : ℕ) → r + 1 < K → (ext (r + 1)).start ≡ 0 → flag_of op (ext r) ≡ 1 → (ext r).be ≡ bit be
        → (ext r).idxA ≡ left_index be a j → (ext r).idxB ≡ b + 5 * j → Folds g op be a b (suc j) m (ext (r + 1)) → Folds g op be a b j (suc m) (ext r)
    inner_row r j m h z f e eA eB rest =
        let i = inside r h z in
        record {
          comp = i.comp op f ∙ ap₂ (joined op) (own r j (omega arith) e eA eB) rest.comp;
          left_exists = span_on be (ext r).idxA (ext (r + 1)).idxA m g.size (i.kept.idxA be e) rest.left_exists;
          right_exists = omega (arith, i.kept.idxB, rest.right_exists);
        }

    pub folds : (n r j : ℕ) → r < K → (ext r).len ≡ n → flag_of op (ext r) ≡ 1 → (ext r).be ≡ bit be
        → (ext r).idxA ≡ left_index be a j → (ext r).idxB ≡ b + 5 * j → Folds g op be a b j n (ext r)
    folds zero r j h l f e eA eB = absurd (omega (arith, len_bounds t r h))
    folds (suc m) r j h l f e eA eB = go (ends_or_goes_on t r h) (folds m (r + 1) (suc j))
      where
        go : ((ext (next K r)).start ≡ 1) ⊎ ((r + 1 < K) × ((ext (r + 1)).start ≡ 0))
            → (r + 1 < K → (ext (r + 1)).len ≡ m → flag_of op (ext (r + 1)) ≡ 1 → (ext (r + 1)).be ≡ bit be
            → (ext (r + 1)).idxA ≡ left_index be a (suc j) → (ext (r + 1)).idxB ≡ b + 5 * suc j → Folds g op be a b (suc j) m (ext (r + 1)))
            → Folds g op be a b j (suc m) (ext r)
        go (inl one) again =
            let single : suc m ≡ 1 = sym l ∙ (ended r h one).len in
            rw single (last_row r j h one f e eA eB)
        go (inr (below, z)) again =
            let i = inside r below z in
            let on = i.kept in
            inner_row r j m below z f e eA eB
            (again below (omega (arith, i.len)) (flag_kept op (ext r) (ext (r + 1)) on ∙ f) (on.be ∙ e)
            (index_on be a j (ext r).idxA (ext (r + 1)).idxA eA (on.idxA be e)) (omega (arith, on.idxB)))

  -- the group that a row begins, from its own indexes on
  pub folds_own : (op : Op) (be : Bool) (r : ℕ) → r < K → flag_of op (ext r) ≡ 1 → (ext r).be ≡ bit be
      → Folds g op be (ext r).idxA (ext r).idxB 0 (ext r).len (ext r)
  folds_own op be r h f e =
      folds op be (ext r).idxA (ext r).idxB (ext r).len r 0 h refl f e (index_zero be (ext r).idxA) (omega arith)

-- on a start row the fold is in the five cells at idxR
pub group_legal : {g : Given} {K : ℕ} {ext : ℕ → Ext} (t : ExtTable g K ext) (op : Op) (be : Bool) (r : ℕ) → r < K → (ext r).start ≡ 1
    → flag_of op (ext r) ≡ 1 → (ext r).be ≡ bit be → Legal g op be (ext r).len (ext r).idxA (ext r).idxB (ext r).idxR
group_legal {g} {K} {ext} t op be r h s f e =
    let m = meaning t r h in
    let all = folds_own t op be r h f e in
    legal
    (record {
      left_exists = all.left_exists;
      right_exists = all.right_exists;
      out_exists = m.looked.res.exist;
      holds = sym m.looked.res.hold ∙ sym (m.ends_in_result s) ∙ all.comp;
    })
