-- The tabler's rows meet the rules: inside a group, at the seam to whatever starts next. Each row's Meaning is shown,
-- and Written makes the rules of it.
-- Assumes nothing.
use mathlib.Core.Path.{◌≡◌, refl, sym, ◌∙◌, ap, ap₂}
use mathlib.Core.Logic.{inl, inr}
use mathlib.Core.Bool.{Bool, true, false}
use mathlib.Core.List.{List}
use Prim.Native.Nat.{ℕ, zero, suc, ◌+◌, ◌-◌, ◌*◌, ◌%◌, ◌≤◌, ◌<◌, ◌^◌}
use native.Mathlib.Nat.{zero-mul, sub-zero, add-zero}
use native.Mathlib.Numerals.{add-one}
use native.Mathlib.Omega.{arith}
use borrow.Author.Tests.{ne_eqb}
use lib.Dec.{eqb, eqb-suc-zero}
use Rattle.word.specs.Word.{p, IsWord, ◌+ₚ◌}
use Rattle.form.specs.Data.{data_of, data_word, bit}
use Rattle.form.specs.declared.Op.{Op}
use Rattle.form.specs.declared.Op.TheVariants.{Add, Mul, Peq}
use Rattle.rows.specs.declared.Ext.{Ext}
use Rattle.rules.specs.Given.{Given}
use Rattle.rules.specs.Extension.{ext_rules, selected}
use Rattle.rules.specs.Satisfies.{All}
use Rattle.rules.specs.Bus.{pulled, pulls}
use Rattle.machine.specs.Extension.{right_at, left_span, term_of, joined, extension_result}
use Rattle.tables.specs.Groups.{flag_add, flag_mul, flag_peq, left_index, group_row}
use Rattle.run_groups.proofs.Meaning.{RowWords, IsBit, flag_of, rest_of, GoesOn, Meaning}
use Rattle.run_groups.proofs.Words.{cells_element}
use Rattle.run_groups.proofs.Pulled.{bool_small, small, data_aux}
use Rattle.run_groups.proofs.Written.{written}
use Rattle.run_groups.proofs.Fold.{rest_inside, rest_end, selected_left}
use Rattle.run_groups.proofs.Legal.{Legal, facts, result_element}

-- an extension step of the machine that is legal: what the tabler makes a group of
pub record Called (g : Given) (op : Op) (be : Bool) (n a b c : ℕ) : Type 0 where
  pub some : 1 ≤ n
  pub not_many : n ≤ 2 ^ 20
  pub small_memory : g.size ≤ 2 ^ 29
  pub words : (k : ℕ) → k < g.size → IsWord (g.cell k)
  pub legal : Legal g op be n a b c

bit_is_bit : (b : Bool) → IsBit (bit b)
bit_is_bit true = inr refl
bit_is_bit false = inl refl

flags_are_bits : (op : Op) → IsBit (flag_add op) × IsBit (flag_mul op) × IsBit (flag_peq op)
flags_are_bits Add = (inr refl, inl refl, inl refl)
flags_are_bits Mul = (inl refl, inr refl, inl refl)
flags_are_bits Peq = (inl refl, inl refl, inr refl)

-- only the operation's own flag is set
own_op : (op op' : Op) (x : Ext) → x.add ≡ flag_add op → x.mul ≡ flag_mul op → x.peq ≡ flag_peq op → flag_of op' x ≡ 1 → op' ≡ op
own_op Add Add x ea em ep f = refl
own_op Add Mul x ea em ep f = absurd (omega arith)
own_op Add Peq x ea em ep f = absurd (omega arith)
own_op Mul Add x ea em ep f = absurd (omega arith)
own_op Mul Mul x ea em ep f = refl
own_op Mul Peq x ea em ep f = absurd (omega arith)
own_op Peq Add x ea em ep f = absurd (omega arith)
own_op Peq Mul x ea em ep f = absurd (omega arith)
own_op Peq Peq x ea em ep f = refl

first_row : (j : ℕ) → bit (eqb j 0) ≡ 1 → j ≡ 0
first_row zero e = refl
first_row (suc j) e = absurd (omega (arith, ap bit (eqb-suc-zero j)))

later_row : (j : ℕ) → 0 < j → bit (eqb j 0) ≡ 0
later_row j h = ap bit (ne_eqb j 0 (omega arith))

-- a_j is within the left cells
left_within : (be : Bool) (a n j size : ℕ) → j < n → a + left_span be n ≤ size → left_index be a j + 5 ≤ size
left_within true a n j size h s = omega arith
left_within false a n j size h s = omega arith

left_on : (be be' : Bool) (a j : ℕ) → bit be ≡ bit be' → left_index be a (j + 1) ≡ left_index be' (left_index be a j) 1
left_on true true a j e = omega arith
left_on true false a j e = absurd (omega arith)
left_on false true a j e = absurd (omega arith)
left_on false false a j e = omega arith

left_first : (be : Bool) (a : ℕ) → left_index be a 0 ≡ a
left_first true a = omega arith
left_first false a = omega arith

count_down : (n j : ℕ) → j < n → n ≤ 2 ^ 20 → n - j ≡ n - (j + 1) +ₚ 1
unfolding ◌+ₚ◌
count_down n j h small = omega arith

module _ {g : Given} {op : Op} {be : Bool} {n a b c : ℕ} (k : Called g op be n a b c) where
  indexes : (j : ℕ) → j < n → (left_index be a j + 5 ≤ g.size) × (b + 5 * j + 5 ≤ g.size) × (c + 5 ≤ g.size)
  indexes j h =
      let f = facts k.legal in
      (left_within be a n j g.size h f.left_exists, omega arith, omega arith)

  pub row_words : (j : ℕ) → j < n → RowWords (group_row g.cell op be n a b c j)
  unfolding group_row
  row_words j h =
      let i = indexes j h in
      let f = small op in
      record {
        start = omega (arith, bool_small (eqb j 0));
        add = omega (arith, f.add);
        mul = omega (arith, f.mul);
        peq = omega (arith, f.peq);
        len = omega (arith, k.not_many);
        idxA = omega (arith, k.small_memory);
        idxB = omega (arith, k.small_memory);
        idxR = omega (arith, k.small_memory);
        be = omega (arith, bool_small be);
        base = k.words (left_index be a j) (omega arith);
        vA = cells_element g k.words (left_index be a j) i.0;
        vB = cells_element g k.words (b + 5 * j) i.1;
        comp = result_element g.cell op be a b j (n - j);
        res = cells_element g k.words c i.2;
      }

  row_meaning : (j : ℕ) → j < n → (y : Ext) → rest_of op y ≡ extension_result g.cell op be a b (suc j) (n - suc j)
      → (y.start ≡ 0 → GoesOn (group_row g.cell op be n a b c j) y) → (y.start ≡ 1 → n - j ≡ 1)
      → Meaning g (group_row g.cell op be n a b c j) y
  unfolding group_row
  row_meaning j h y rest on end =
      let i = indexes j h in
      let f = flags_are_bits op in
      record {
        looked = record {
          base = refl;
          vA = record { exist = i.0; hold = refl };
          vB = record { exist = i.1; hold = refl };
          res = record { exist = i.2; hold = refl };
        };
        bits = record { be = bit_is_bit be; start = bit_is_bit (eqb j 0); add = f.0; mul = f.1; peq = f.2 };
        accumulates = λ op' flag. rw (own_op op op' (group_row g.cell op be n a b c j) refl refl refl flag) own;
        ends_in_result = λ one. rw (first_row j one, sub-zero) (sym (facts k.legal).holds);
        goes_on = on;
        ends = end;
      }
    where
      x : Ext
      x = group_row g.cell op be n a b c j

      own : x.comp ≡ joined op (term_of op (selected x) x.vB) (rest_of op y)
      own =
          let one_more : n - j ≡ suc (n - suc j) = omega arith in
          ap (extension_result g.cell op be a b j) one_more
          ∙ ap₂ (λ (l r : List ℕ). joined op (term_of op l (right_at g.cell b j)) r)
          (sym (selected_left g.cell be a j x (row_words j h) refl refl refl)) (sym rest)

  -- inside a group
  pub inside_rules : (j : ℕ) → j + 1 < n → All (ext_rules g (group_row g.cell op be n a b c j) (group_row g.cell op be n a b c (j + 1)))
  unfolding group_row
  inside_rules j h =
      written g x y (inl z)
      (row_meaning j (omega arith) y (rest_inside op y (row_words (j + 1) h).comp z ∙ rw add-one) (λ _. on) (λ one. absurd (omega (arith, z))))
    where
      x : Ext
      x = group_row g.cell op be n a b c j

      y : Ext
      y = group_row g.cell op be n a b c (j + 1)

      z : y.start ≡ 0
      z = later_row (j + 1) (omega arith)

      on : GoesOn x y
      on =
          record {
            len = count_down n j (omega arith) k.not_many;
            be = refl;
            add = refl;
            mul = refl;
            peq = refl;
            idxA = λ be' e. left_on be be' a j e;
            idxB = omega arith;
          }

  -- the last row, next to any row that starts a group
  pub seam_rules : (j : ℕ) → j + 1 ≡ n → (y : Ext) → y.start ≡ 1 → All (ext_rules g (group_row g.cell op be n a b c j) y)
  seam_rules j e y one =
      let none : 0 ≡ n - suc j = omega arith in
      written g (group_row g.cell op be n a b c j) y (inr one)
      (row_meaning j (omega arith) y
      (rest_end op y one ∙ ap (extension_result g.cell op be a b (suc j)) none)
      (λ z. absurd (omega arith)) (λ _. omega arith))

-- the first row starts the group and pulls the call's tuple once, and the others pull nothing
module _ (cell : ℕ → ℕ) (op : Op) (be : Bool) (n a b c : ℕ) where
  pub start_first : (group_row cell op be n a b c 0).start ≡ 1
  unfolding group_row
  start_first = refl

  pub pulls_first : pulls (group_row cell op be n a b c 0) ≡ 1
  unfolding group_row
  pulls_first = omega (arith, (small op).one)

  pub pulls_later : (j : ℕ) → 0 < j → pulls (group_row cell op be n a b c j) ≡ 0
  unfolding group_row
  pulls_later j h = rw (later_row j h, zero-mul)

  pub pulled_first : n ≤ 2 ^ 20 → pulled (group_row cell op be n a b c 0) ≡ record { aux = data_word op be n; left = a; right = b; out = c }
  unfolding group_row
  pulled_first small i =
      record {
        aux = (ap (λ (l : ℕ). data_of (bit be) (flag_add op) (flag_mul op) (flag_peq op) l % p) (sub-zero n) ∙ data_aux op be n small) i;
        left = left_first be a i;
        right = add-zero b i;
        out = c;
      }
