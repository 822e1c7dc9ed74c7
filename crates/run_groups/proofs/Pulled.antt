-- The tuple that an extension row pulls, read back: four bits and a length that Lemma 1 keeps small, so aux is below p
-- and its digits are those of the DATA that it equals. With two or three flags set it equals no DATA.
-- Assumes nothing.
use mathlib.Core.Path.{◌≡◌, refl, sym, ◌∙◌}
use mathlib.Core.Logic.{inl, inr}
use mathlib.Core.Bool.{Bool, true, false}
use Prim.Native.Nat.{ℕ, ◌+◌, ◌*◌, ◌%◌, ◌≤◌, ◌<◌, ◌^◌}
use native.Mathlib.Nat.{mod-eq_of_lt, zero-mul}
use native.Mathlib.Omega.{arith}
use Rattle.word.specs.Word.{p}
use Rattle.form.specs.Data.{data_of, data_word, bit}
use Rattle.form.specs.declared.Op.{Op}
use Rattle.form.specs.declared.Op.TheVariants.{Add, Mul, Peq}
use Rattle.rows.specs.declared.Ext.{Ext}
use Rattle.rules.specs.Given.{Given}
use Rattle.rules.specs.Bus.{pulled, pulls}
use Rattle.tables.specs.Groups.{flag_add, flag_mul, flag_peq}
use Rattle.run_groups.proofs.Meaning.{IsBit, flag_of}
use Rattle.run_groups.proofs.Lengths.{ExtTable, meaning, len_bounds}
use Rattle.run_groups.proofs.Legal.{Legal}
use Rattle.run_groups.proofs.Group.{group_legal}

-- a row's columns are those of an operation on n elements, at its start
pub record Calls (op : Op) (mode : Bool) (n : ℕ) (x : Ext) : Type 0 where
  pub start : x.start ≡ 1
  pub be : x.be ≡ bit mode
  pub add : x.add ≡ flag_add op
  pub mul : x.mul ≡ flag_mul op
  pub peq : x.peq ≡ flag_peq op
  pub len : x.len ≡ n

digit : (d d' x x' : ℕ) → d ≤ 1 → d' ≤ 1 → d + 2 * x ≡ d' + 2 * x' → (d ≡ d') × (x ≡ x')
digit d d' x x' h h' e =
    let same : d ≡ d' = omega arith in
    (same, omega arith)

record Digits (be add mul peq len be' add' mul' peq' len' : ℕ) : Type 0 where
  be_same : be ≡ be'
  add_same : add ≡ add'
  mul_same : mul ≡ mul'
  peq_same : peq ≡ peq'
  len_same : len ≡ len'

digits : (be add mul peq len be' add' mul' peq' len' : ℕ) → be ≤ 1 → add ≤ 1 → mul ≤ 1 → peq ≤ 1 → be' ≤ 1 → add' ≤ 1 → mul' ≤ 1 → peq' ≤ 1
    → data_of be add mul peq len ≡ data_of be' add' mul' peq' len' → Digits be add mul peq len be' add' mul' peq' len'
digits be add mul peq len be' add' mul' peq' len' h₁ h₂ h₃ h₄ h₅ h₆ h₇ h₈ e =
    let d₁ = digit be be' (add + 2 * (mul + 2 * (peq + 2 * len))) (add' + 2 * (mul' + 2 * (peq' + 2 * len'))) h₁ h₅ (omega arith) in
    let d₂ = digit add add' (mul + 2 * (peq + 2 * len)) (mul' + 2 * (peq' + 2 * len')) h₂ h₆ d₁.1 in
    let d₃ = digit mul mul' (peq + 2 * len) (peq' + 2 * len') h₃ h₇ d₂.1 in
    let d₄ = digit peq peq' len len' h₄ h₈ d₃.1 in
    record { be_same = d₁.0; add_same = d₂.0; mul_same = d₃.0; peq_same = d₄.0; len_same = d₄.1 }

bit_small : (x : ℕ) → IsBit x → x ≤ 1
bit_small x (inl z) = omega arith
bit_small x (inr one) = omega arith

pub bool_small : (be : Bool) → bit be ≤ 1
bool_small true = omega arith
bool_small false = omega arith

-- DATA by its flags
data_digits : (op : Op) (be : Bool) (n : ℕ) → data_word op be n ≡ data_of (bit be) (flag_add op) (flag_mul op) (flag_peq op) n
data_digits Add be n = refl
data_digits Mul be n = refl
data_digits Peq be n = refl

pub record Small (op : Op) : Type 0 where
  pub add : flag_add op ≤ 1
  pub mul : flag_mul op ≤ 1
  pub peq : flag_peq op ≤ 1
  pub one : flag_add op + flag_mul op + flag_peq op ≡ 1

pub small : (op : Op) → Small op
small Add = omega arith
small Mul = omega arith
small Peq = omega arith

-- aux of bits and of a length up to 2^20 is not reduced
aux_whole : (be add mul peq len : ℕ) → be ≤ 1 → add ≤ 1 → mul ≤ 1 → peq ≤ 1 → len ≤ 2 ^ 20 → data_of be add mul peq len % p ≡ data_of be add mul peq len
aux_whole be add mul peq len h₁ h₂ h₃ h₄ h₅ = mod-eq_of_lt (omega arith)

-- the aux of an operation on at most 2^20 elements is its DATA
pub data_aux : (op : Op) (be : Bool) (n : ℕ) → n ≤ 2 ^ 20 → data_of (bit be) (flag_add op) (flag_mul op) (flag_peq op) n % p ≡ data_word op be n
data_aux op be n h =
    let f = small op in
    aux_whole (bit be) (flag_add op) (flag_mul op) (flag_peq op) n (bool_small be) f.add f.mul f.peq h ∙ sym (data_digits op be n)

pulls_start : (x : Ext) → IsBit x.start → (pulls x ≡ 0 → ⊥) → x.start ≡ 1
pulls_start x (inl z) some = absurd (some (rw (z, zero-mul)))
pulls_start x (inr one) some = one

flag_set : (op : Op) (x : Ext) → x.add ≡ flag_add op → x.mul ≡ flag_mul op → x.peq ≡ flag_peq op → flag_of op x ≡ 1
flag_set Add x add mul peq = add
flag_set Mul x add mul peq = mul
flag_set Peq x add mul peq = peq

module _ {g : Given} {K : ℕ} {ext : ℕ → Ext} (t : ExtTable g K ext) where
  -- a row that pulls a DATA is the start of that operation
  pub calls : (op : Op) (be : Bool) (n r : ℕ) → r < K → (pulled (ext r)).aux ≡ data_word op be n → (pulls (ext r) ≡ 0 → ⊥) → Calls op be n (ext r)
  calls op be n r h e some =
      let x = ext r in
      let b = (meaning t r h).bits in
      let hb = bit_small x.be b.be in
      let ha = bit_small x.add b.add in
      let hm = bit_small x.mul b.mul in
      let hp = bit_small x.peq b.peq in
      let whole = aux_whole x.be x.add x.mul x.peq x.len hb ha hm hp (omega (arith, t.few_rows, len_bounds t r h)) in
      let f = small op in
      let d =
      digits x.be x.add x.mul x.peq x.len (bit be) (flag_add op) (flag_mul op) (flag_peq op) n hb ha hm hp (bool_small be)
      f.add f.mul f.peq (sym whole ∙ e ∙ data_digits op be n)
      in
      record {
        start = pulls_start x b.start some;
        be = d.be_same;
        add = d.add_same;
        mul = d.mul_same;
        peq = d.peq_same;
        len = d.len_same;
      }

-- and pulls it once
pub pulls_once : {op : Op} {be : Bool} {n : ℕ} {x : Ext} → Calls op be n x → pulls x ≡ 1
pulls_once {op} {be} {n} {x} c =
    let one : x.add + x.mul + x.peq ≡ 1 = omega (arith, c.add, c.mul, c.peq, (small op).one) in
    rw (c.start, one)

-- what such a row says of the memory
pub pulled_legal : {g : Given} {K : ℕ} {ext : ℕ → Ext} (t : ExtTable g K ext) (op : Op) (be : Bool) (n r : ℕ) → r < K
    → (pulled (ext r)).aux ≡ data_word op be n → (pulls (ext r) ≡ 0 → ⊥) → Legal g op be n (ext r).idxA (ext r).idxB (ext r).idxR
pulled_legal {g} {K} {ext} t op be n r h e some =
    let c = calls t op be n r h e some in
    rw c.len at (group_legal t op be r h c.start (flag_set op (ext r) c.add c.mul c.peq) c.be)
