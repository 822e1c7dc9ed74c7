-- Rows that wait in slots: what putting one, and taking one, does to the count of each tuple, and of each tuple of a
-- class.
-- Assumes nothing.
use mathlib.Core.Path.{◌≡◌, refl, sym, ap, ◌∙◌}
use mathlib.Core.Bool.{Bool, true, false, ◌&&◌, cond}
use mathlib.Core.List.{List, [], ◌∷◌}
use Prim.Native.Nat.{ℕ, ◌+◌, ◌-◌, ◌*◌, ◌/◌, ◌%◌, ◌<◌}
use native.Mathlib.Nat.{mul-add-mod_self_left, mod-eq_of_lt}
use native.Mathlib.Omega.{arith}
use lib.ListN.{length, set}
use lib.Seq.{get_or-set_same, get_or-set_other}
use borrow.Author.Tests.{ne_eqb}
use Rattle.rows.specs.Rows.{exec_at, ext_at}
use Rattle.rules.specs.Bus.{Tuple, same_tuple, total, pushed, pushes, pulled, pulls, pushed_to, pulled_to, instruction_of}
use Rattle.rules.specs.Sizes.{given, tables}
use Rattle.word.proofs.Tests.{each}
use Rattle.bus_rounds.specs.Slots.{class_of, live, slot_at, waiting, held_to, Tagged, OneMore, OneLess, Put, Taken}
use Rattle.bus_rounds.specs.declared.slot.Slots.{Slots}
use Rattle.bus_tuples.proofs.Tuples.{same_tuple_lem}
use Rattle.bus_tuples.proofs.Totals.{one_more, counts_none, total_zero, total_set}
use Rattle.bus_tuples.proofs.Pulling.{pulls_none_lem, pulls_one}

-- no row waits where no slot is live
dead : (ext : List ℕ) (span : ℕ) (σ : Tuple) (x : ℕ) → live x ≡ false → ◌≡◌ {A = ℕ} (cond (waiting ext span σ x) 1 0) 0
unfolding waiting
dead ext span σ x e = rw e

pub none_held : (ext : List ℕ) (span : ℕ) (slots : Slots) (σ : Tuple) (n : ℕ) → ((s : ℕ) → s < n → live (slot_at slots s) ≡ false)
    → held_to ext span slots σ n ≡ 0
unfolding held_to
none_held ext span slots σ n none =
    total_zero (λ s. cond (waiting ext span σ (slot_at slots s)) 1 0) n (λ s h. dead ext span σ (slot_at slots s) (none s h))

-- a number of a tag is that of a row, which waits
pub waits_as : (ext : List ℕ) {span low : ℕ} (σ : Tuple) (k : ℕ) → Tagged span low → k + 1 < span
    → waiting ext span σ (low + k + 1) ≡ same_tuple (pulled (ext_at ext (120 * k))) σ
unfolding waiting
waits_as ext {span} {low} σ k tagged few =
    let above : low + k + 1 ≡ span * (low / span) + (k + 1) = omega (arith, tagged.whole) in
    let rest : (low + k + 1) % span ≡ k + 1 = ap (λ x. x % span) above ∙ mul-add-mod_self_left span (low / span) (k + 1) ∙ mod-eq_of_lt few in
    let row : (low + k + 1) % span - 1 ≡ k = omega arith in
    rw (ne_eqb (low + k + 1) 0 (λ e. omega arith), ne_eqb (low + k + 1) 16777215 (λ e. omega (arith, tagged.fits)), row)

-- a slot is written
module _ (slots : Slots) (low : length slots.lo ≡ 6553) (high : length slots.hi ≡ 6553) (q a b : ℕ) (inside : q < 6553) where
  abbrev written : Slots
  written = record { lo = set slots.lo q a; hi = set slots.hi q b }

  stored : slot_at written q ≡ a + 65536 * b
  stored = rw (get_or-set_same slots.lo q a 0 (omega arith), get_or-set_same slots.hi q b 0 (omega arith))

  kept : (s : ℕ) → (s ≡ q → ⊥) → slot_at written s ≡ slot_at slots s
  kept s differs = rw (get_or-set_other slots.lo q s a 0 differs, get_or-set_other slots.hi q s b 0 differs)

  held_set : (ext : List ℕ) (span : ℕ) (σ : Tuple) (n : ℕ) → q < n
      → held_to ext span written σ n + cond (waiting ext span σ (slot_at slots q)) 1 0
      ≡ held_to ext span slots σ n + cond (waiting ext span σ (a + 65536 * b)) 1 0
  unfolding held_to
  held_set ext span σ n h =
      let held : ℕ → ℕ = λ x. cond (waiting ext span σ x) 1 0 in
      let were : ℕ → ℕ = λ s. held (slot_at slots s) in
      total_set (λ s. held (slot_at written s)) were q (λ s differs. ap held (kept s differs)) n h
      ∙ ap (λ x. total were n + held x) stored

  -- the number of row k is put into an empty slot
  pub slot_put : (ext : List ℕ) {span low : ℕ} (k : ℕ) → Tagged span low → k + 1 < span → a + 65536 * b ≡ low + k + 1 → slot_at slots q ≡ 0
      → OneMore ext span (pulled (ext_at ext (120 * k))) slots written
  slot_put ext {span} k tagged few number empty =
      record {
        held = λ σ.
            let held : ℕ → ℕ = λ x. cond (waiting ext span σ x) 1 0 in
            let was = ap held empty ∙ dead ext span σ 0 refl in
            let is = ap held number ∙ ap (λ b. cond b 1 0) (waits_as ext σ k tagged few) in
            omega (arith, held_set ext span σ 6553 inside);
      }

-- a row that waits for a tuple waits as that tuple
waits_same : (ext : List ℕ) (span : ℕ) (τ σ : Tuple) (x : ℕ) → waiting ext span τ x ≡ true → waiting ext span σ x ≡ same_tuple τ σ
unfolding waiting
waits_same ext span τ σ x e =
    let row = pulled (ext_at ext (120 * (x % span - 1))) in
    let both = each (live x) (same_tuple row τ ∷ []) e in
    ap (λ b. b && same_tuple row σ) both.0 ∙ ap (λ ρ. same_tuple ρ σ) (same_tuple_lem row τ both.1)

-- a slot in which a row waits is taken
pub slot_taken : (ext : List ℕ) (span : ℕ) (τ : Tuple) (slots : Slots) → length slots.lo ≡ 6553 → length slots.hi ≡ 6553 → (q : ℕ) → q < 6553
    → waiting ext span τ (slot_at slots q) ≡ true → OneLess ext span τ slots (record { lo = set slots.lo q 65535; hi = set slots.hi q 255 })
slot_taken ext span τ slots low high q inside waits =
    record {
      held = λ σ.
          let gone = dead ext span σ 16777215 refl in
          let was = ap {B = ℕ} (λ b. cond b 1 0) (waits_same ext span τ σ (slot_at slots q) waits) in
          omega (arith, held_set slots low high q 65535 255 inside ext span σ 6553 inside);
    }

-- a row counts nothing of a tuple of another class
other_class : (rounds class : ℕ) (σ τ : Tuple) (n : ℕ) → class_of rounds σ ≡ class → (class_of rounds τ ≡ class → ⊥) → cond (same_tuple τ σ) n 0 ≡ 0
other_class rounds class σ τ n mine differs = go (same_tuple τ σ) refl
  where
    go : (b : Bool) → same_tuple τ σ ≡ b → cond b n 0 ≡ 0
    go true e = absurd (differs (ap (class_of rounds) (same_tuple_lem τ σ e) ∙ mine))
    go false e = refl

-- no slot is used yet, and no row is put
pub none_put : (ext : List ℕ) (span rounds class : ℕ) (slots : Slots) → ((s : ℕ) → s < 6553 → slot_at slots s ≡ 0)
    → Put ext span rounds class slots 0
none_put ext span rounds class slots empty = record { waits = λ σ mine. none_held ext span slots σ 6553 (λ s h. ap live (empty s h)) }

-- extension row k
module _ {ext : List ℕ} {span rounds class : ℕ} {slots : Slots} {k : ℕ} (put : Put ext span rounds class slots k) where
  abbrev pulls_of : Tuple → ℕ → ℕ
  pulls_of σ j = cond (same_tuple (pulled (ext_at ext (120 * j))) σ) (pulls (ext_at ext (120 * j))) 0

  pub pulls_nothing : pulls (ext_at ext (120 * k)) ≡ 0 → Put ext span rounds class slots (k + 1)
  pulls_nothing none = record { waits = λ σ mine. put.waits σ mine ∙ sym (pulls_none_lem ext σ k none) }

  pub pulls_other : (class_of rounds (pulled (ext_at ext (120 * k))) ≡ class → ⊥) → Put ext span rounds class slots (k + 1)
  pulls_other differs =
      let row = ext_at ext (120 * k) in
      record { waits = λ σ mine. omega (arith, one_more (pulls_of σ) k, put.waits σ mine, other_class rounds class σ (pulled row) (pulls row) mine differs) }

  pub pulls_once : {slots₁ : Slots} → pulls (ext_at ext (120 * k)) ≡ 1 → OneMore ext span (pulled (ext_at ext (120 * k))) slots slots₁
      → Put ext span rounds class slots₁ (k + 1)
  pulls_once once more =
      record { waits = λ σ mine. omega (arith, put.waits σ mine, more.held σ, pulls_one ext (pulled (ext_at ext (120 * k))) σ k once refl) }

-- every row is put, and none is taken yet
pub none_taken : (program exec : List ℕ) {ext : List ℕ} {span rounds class : ℕ} {slots : Slots}
    → Put ext span rounds class slots (length ext / 120) → Taken program exec ext span rounds class slots 0
none_taken program exec put = record { waits = λ σ mine. omega (arith, put.waits σ mine) }

-- execution row r
module _ {program exec ext : List ℕ} {span rounds class : ℕ} {slots : Slots} {r : ℕ} (taken : Taken program exec ext span rounds class slots r) where
  abbrev pushes_of : Tuple → ℕ → ℕ
  pushes_of σ j =
      let i = instruction_of (given program []) (tables exec []) j in
      cond (same_tuple (pushed i (exec_at exec (32 * j))) σ) (pushes i) 0

  abbrev sent : Tuple
  sent = pushed (instruction_of (given program []) (tables exec []) r) (exec_at exec (32 * r))

  pub pushes_nothing : pushes (instruction_of (given program []) (tables exec []) r) ≡ 0 → Taken program exec ext span rounds class slots (r + 1)
  pushes_nothing none =
      let i = instruction_of (given program []) (tables exec []) r in
      record { waits = λ σ mine. omega (arith, one_more (pushes_of σ) r, taken.waits σ mine, counts_none (same_tuple sent σ) (pushes i) none) }

  pub pushes_other : (class_of rounds sent ≡ class → ⊥) → Taken program exec ext span rounds class slots (r + 1)
  pushes_other differs =
      let i = instruction_of (given program []) (tables exec []) r in
      record { waits = λ σ mine. omega (arith, one_more (pushes_of σ) r, taken.waits σ mine, other_class rounds class σ sent (pushes i) mine differs) }

  pub pushes_once : {slots₁ : Slots} → pushes (instruction_of (given program []) (tables exec []) r) ≡ 1 → OneLess ext span sent slots slots₁
      → Taken program exec ext span rounds class slots₁ (r + 1)
  pushes_once once less =
      record {
        waits = λ σ mine.
            let is : pushes_of σ r ≡ cond (same_tuple sent σ) 1 0 = λ i. cond (same_tuple sent σ) (once i) 0 in
            omega (arith, one_more (pushes_of σ) r, taken.waits σ mine, less.held σ);
      }

  -- where no row waits any more, as much is pushed as is pulled
  pub all_taken : ((s : ℕ) → s < 6553 → live (slot_at slots s) ≡ false) → (σ : Tuple) → class_of rounds σ ≡ class
      → pushed_to (given program []) (tables exec ext) σ r ≡ pulled_to (tables exec ext) σ (length ext / 120)
  all_taken none σ mine = omega (arith, taken.waits σ mine, none_held ext span slots σ 6553 none)
