-- DATA both ways: what the word of an operation on N elements reads as, and that no other word reads so.
-- Each follows from the word's quotient and remainder by 32. Assumes nothing.
use mathlib.Core.Path.{◌≡◌, refl, sym, ap, ◌∙◌}
use mathlib.Core.Bool.{Bool, true, false, cond, ◌&&◌, ◌||◌}
use mathlib.Core.List.{[], ◌∷◌}
use Prim.Native.Nat.{ℕ, ◌/◌, ◌%◌, ◌^◌, ◌≤◌}
use native.Mathlib.Omega.{arith}
use lib.Dec.{leb, eqb}
use borrow.Author.Tests.{eqb-true, eq-eqb, leb-true, le-leb}
use Rattle.word.proofs.Tests.{by_test, each, same_test}
use Rattle.form.specs.Data.{data_word, Call, None, Of, call_by, read_data}
use Rattle.form.specs.Opcodes.{is_call}
use Rattle.form.specs.declared.Op.{Op}
use Rattle.form.specs.declared.Op.TheVariants.{Add, Mul, Peq}

pub parts : (op : Op) (be : Bool) (n : ℕ) → (data_word op be n / 32 ≡ n) × (data_word op be n % 32 ≡ data_word op be 0)
parts Add false n = omega arith
parts Add true n = omega arith
parts Mul false n = omega arith
parts Mul true n = omega arith
parts Peq false n = omega arith
parts Peq true n = omega arith

-- what is left of a word without 32·N tells its operation
by_rest : (d : ℕ)
    → read_data d ≡ cond (leb 1 (d / 32) && leb (d / 32) (2 ^ 20)) (call_by (λ op be. eqb (d % 32) (data_word op be 0)) (d / 32)) None
unfolding read_data
by_rest d i = cond (leb 1 (d / 32) && leb (d / 32) (2 ^ 20)) (call_by (λ op be. rest op be i) (d / 32)) None
  where
    rest : (op : Op) (be : Bool) → eqb d (data_word op be (d / 32)) ≡ eqb (d % 32) (data_word op be 0)
    rest op be =
        let (q, r) = parts op be (d / 32) in
        same_test (eqb d (data_word op be (d / 32))) (eqb (d % 32) (data_word op be 0))
        (λ e. eq-eqb (d % 32) _ (ap (λ (x : ℕ). x % 32) (eqb-true d _ e) ∙ r))
        (λ e. eq-eqb d (data_word op be (d / 32)) (omega (arith, eqb-true (d % 32) (data_word op be 0) e)))

-- what is written is read
pub written : (op : Op) (be : Bool) (n : ℕ) → 1 ≤ n → n ≤ 2 ^ 20 → read_data (data_word op be n) ≡ Of op be n
written op be n some most =
    let (q, r) = parts op be n in
    by_rest (data_word op be n) ∙ rw (q, r, le-leb 1 n some, le-leb n (2 ^ 20) most) (own op be)
  where
    own : (op : Op) (be : Bool) → call_by (λ op' be'. eqb (data_word op be 0) (data_word op' be' 0)) n ≡ Of op be n
    own Add false = refl
    own Add true = refl
    own Mul false = refl
    own Mul true = refl
    own Peq false = refl
    own Peq true = refl

-- two calls have two words
pub injective : (op op' : Op) (be be' : Bool) (n n' : ℕ) → 1 ≤ n → n ≤ 2 ^ 20 → 1 ≤ n' → n' ≤ 2 ^ 20 → data_word op be n ≡ data_word op' be' n' → Of op be n ≡ Of op' be' n'
injective op op' be be' n n' some most some' most' e = sym (written op be n some most) ∙ ap read_data e ∙ written op' be' n' some' most'

-- what holds of a word d that reads as a call
pub record Reads (d : ℕ) (op : Op) (be : Bool) (n : ℕ) : Type 0 where
  pub word : data_word op be n ≡ d
  pub some : 1 ≤ n
  pub most : n ≤ 2 ^ 20

module _ (d : ℕ) where
  abbrev ReadAs : Call → Type 0
  ReadAs None = Unit {0}
  ReadAs (Of op be n) = Reads d op be n

  hit : leb 1 (d / 32) && leb (d / 32) (2 ^ 20) ≡ true → (op : Op) (be : Bool) → eqb d (data_word op be (d / 32)) ≡ true → ReadAs (Of op be (d / 32))
  hit fits op be t =
      let (low, high) = each (leb 1 (d / 32)) (leb (d / 32) (2 ^ 20) ∷ []) fits in
      record { word = sym (eqb-true d _ t); some = leb-true _ _ low; most = leb-true _ _ high }

  read_as : ReadAs (read_data d)
  unfolding read_data
  read_as =
      by_test ReadAs (leb 1 (d / 32) && leb (d / 32) (2 ^ 20)) (λ fits.
      by_test ReadAs _ (hit fits Add false) (λ _.
      by_test ReadAs _ (hit fits Add true) (λ _.
      by_test ReadAs _ (hit fits Mul false) (λ _.
      by_test ReadAs _ (hit fits Mul true) (λ _.
      by_test ReadAs _ (hit fits Peq false) (λ _.
      by_test ReadAs _ (hit fits Peq true) (λ _. tt)))))))
      (λ _. tt)

  -- what is read was written
  pub reads : (op : Op) (be : Bool) (n : ℕ) → read_data d ≡ Of op be n → Reads d op be n
  reads op be n e = rw e at read_as

-- the tests by which a word is known to name a call
pub call_tests : (d : ℕ)
    → leb 1 (d / 32) && leb (d / 32) (2 ^ 20) && (eqb (d % 32) 4 || eqb (d % 32) 6 || eqb (d % 32) 8 || eqb (d % 32) 10 || eqb (d % 32) 16 || eqb (d % 32) 18)
    ≡ is_call (read_data d)
call_tests d =
    same (leb 1 (d / 32) && leb (d / 32) (2 ^ 20)) (eqb (d % 32) 4) (eqb (d % 32) 6) (eqb (d % 32) 8) (eqb (d % 32) 10) (eqb (d % 32) 16) (eqb (d % 32) 18)
    ∙ ap is_call (sym (by_rest d))
  where
    same : (r a b c e f g : Bool)
        → r && (a || b || c || e || f || g)
        ≡ is_call (cond r (cond a (Of Add false (d / 32)) (cond b (Of Add true (d / 32)) (cond c (Of Mul false (d / 32)) (cond e (Of Mul true (d / 32)) (cond f (Of Peq false (d / 32)) (cond g (Of Peq true (d / 32)) None)))))) None)
    same false a b c e f g = refl
    same true true b c e f g = refl
    same true false true c e f g = refl
    same true false false true e f g = refl
    same true false false false true f g = refl
    same true false false false false true g = refl
    same true false false false false false true = refl
    same true false false false false false false = refl
