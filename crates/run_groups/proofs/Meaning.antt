-- What rules 18 to 21 and 1 to 17 say of a row x and its pair y once each polynomial's factor is known to be 0 or 1, in
-- the words of draft 0.6.0, 3.5.2. Read proves that rules which hold say this, and Written that this is enough for them
-- to hold.
-- Assumes nothing.
use mathlib.Core.Path.{◌≡◌}
use mathlib.Core.Logic.{◌⊎◌}
use mathlib.Core.Bool.{Bool}
use mathlib.Core.List.{List}
use Prim.Native.Nat.{ℕ, ◌+◌, ◌≤◌}
use Rattle.word.specs.Word.{IsWord, ◌+ₚ◌}
use Rattle.word.specs.Element.{IsElement, element, ◌+ₑ◌}
use Rattle.form.specs.Data.{bit}
use Rattle.form.specs.declared.Op.{Op}
use Rattle.form.specs.declared.Op.TheVariants.{Add, Mul, Peq}
use Rattle.rows.specs.declared.Ext.{Ext}
use Rattle.rules.specs.Given.{Given}
use Rattle.rules.specs.Extension.{selected, comp_tail}
use Rattle.machine.specs.Extension.{element_at, term_of, joined}
use Rattle.tables.specs.Groups.{left_index}

-- every base column is a word, and every other an element
pub record RowWords (x : Ext) : Type 0 where
  pub start : IsWord x.start
  pub add : IsWord x.add
  pub mul : IsWord x.mul
  pub peq : IsWord x.peq
  pub len : IsWord x.len
  pub idxA : IsWord x.idxA
  pub idxB : IsWord x.idxB
  pub idxR : IsWord x.idxR
  pub be : IsWord x.be
  pub base : IsWord x.base
  pub vA : IsElement x.vA
  pub vB : IsElement x.vB
  pub comp : IsElement x.comp
  pub res : IsElement x.res

-- the five cells from an address on exist, and hold the element
pub record FiveCells (g : Given) (addr : ℕ) (a : List ℕ) : Type 0 where
  pub exist : addr + 5 ≤ g.size
  pub hold : a ≡ element_at g.cell addr

abbrev pub IsBit : ℕ → Type 0
IsBit x = (x ≡ 0) ⊎ (x ≡ 1)

-- rules 18 to 21
pub record Looked (g : Given) (x : Ext) : Type 0 where
  pub base : x.base ≡ g.cell x.idxA
  pub vA : FiveCells g x.idxA x.vA
  pub vB : FiveCells g x.idxB x.vB
  pub res : FiveCells g x.idxR x.res

-- rules 1 to 5
pub record Bits (x : Ext) : Type 0 where
  pub be : IsBit x.be
  pub start : IsBit x.start
  pub add : IsBit x.add
  pub mul : IsBit x.mul
  pub peq : IsBit x.peq

abbrev pub flag_of : Op → Ext → ℕ
flag_of Add x = x.add
flag_of Mul x = x.mul
flag_of Peq x = x.peq

-- what the next row leaves to be added or multiplied
abbrev pub rest_of : Op → Ext → List ℕ
rest_of Add y = comp_tail y
rest_of Mul y = comp_tail y
rest_of Peq y = comp_tail y +ₑ element y.start

-- rules 10 to 16, where y goes on with x's group
pub record GoesOn (x y : Ext) : Type 0 where
  pub len : x.len ≡ y.len +ₚ 1
  pub be : y.be ≡ x.be
  pub add : y.add ≡ x.add
  pub mul : y.mul ≡ x.mul
  pub peq : y.peq ≡ x.peq
  pub idxA : (be : Bool) → x.be ≡ bit be → y.idxA ≡ left_index be x.idxA 1
  pub idxB : y.idxB ≡ x.idxB + 5

pub record Meaning (g : Given) (x y : Ext) : Type 0 where
  pub looked : Looked g x
  pub bits : Bits x
  pub accumulates : (op : Op) → flag_of op x ≡ 1 → x.comp ≡ joined op (term_of op (selected x) x.vB) (rest_of op y)
  pub ends_in_result : x.start ≡ 1 → x.comp ≡ x.res
  pub goes_on : y.start ≡ 0 → GoesOn x y
  pub ends : y.start ≡ 1 → x.len ≡ 1
