-- Inner: slots in which pulls wait, of one class of tuples or of all. A slot's number is 0 where it is empty, 2^24 - 1
-- where a push took it, and else k + 1 for extension row k, plus a multiple of `span` that is the tag of the row's
-- tuple.
-- Declared in src/: slot (here).
use Rattle.std.specs.Prelude.{◌≡◌, ◌≢◌, Bool, ◌&&◌, not, cond, List, [], ℕ, ◌+◌, ◌-◌, ◌*◌, ◌/◌, ◌%◌, ◌<◌, length, get_or, eqb}
use Rattle.rows.specs.Rows.{ext_at}
use Rattle.rules.specs.Bus.{Tuple, same_tuple, pulled, total, pushed_to, pulled_to}
use Rattle.rules.specs.Sizes.{given, tables}
use Rattle.bus_tuples.specs.Sent.{hash_of}
use Rattle.bus_rounds.specs.declared.slot.Slots.{Slots}

-- the round in which a tuple is settled
unfoldable pub class_of : ℕ → Tuple → ℕ
class_of rounds σ = hash_of σ / 6553 % rounds

-- how far apart tags are, one or the other: there is room for the number of each row, plus one
abbrev pub Span : ℕ → Type 0
Span span = span ≢ 131072 → span ≡ 2097152

pub record Room (ext : List ℕ) (span : ℕ) : Type 0 where
  pub kind : Span span
  pub rows : length ext / 120 < span

-- where the numbers of a tag begin: they are no slot's that was taken
pub record Tagged (span low : ℕ) : Type 0 where
  pub whole : low ≡ span * (low / span)
  pub fits : low + span < 16777216

-- a slot's number: its low 16 bits, and those above
abbrev pub slot_at : Slots → ℕ → ℕ
slot_at slots s = get_or slots.lo s 0 + 65536 * get_or slots.hi s 0

-- a slot in which a row waits, and one in which a row with this tuple does
abbrev pub live : ℕ → Bool
live x = not (eqb x 0) && not (eqb x 16777215)

unfoldable pub waiting : List ℕ → ℕ → Tuple → ℕ → Bool
waiting ext span σ x = live x && same_tuple (pulled (ext_at ext (120 * (x % span - 1)))) σ

-- how many of the slots below n have a waiting row with this tuple
unfoldable pub held_to : List ℕ → ℕ → Slots → Tuple → ℕ → ℕ
held_to ext span slots σ n = total (λ s. cond (waiting ext span σ (slot_at slots s)) 1 0) n

-- one row more waits in the slots than before, or one fewer: a row with this tuple
pub record OneMore (ext : List ℕ) (span : ℕ) (τ : Tuple) (slots slots₁ : Slots) : Type 0 where
  pub held : (σ : Tuple) → held_to ext span slots₁ σ 6553 ≡ held_to ext span slots σ 6553 + cond (same_tuple τ σ) 1 0

pub record OneLess (ext : List ℕ) (span : ℕ) (τ : Tuple) (slots slots₁ : Slots) : Type 0 where
  pub held : (σ : Tuple) → held_to ext span slots₁ σ 6553 + cond (same_tuple τ σ) 1 0 ≡ held_to ext span slots σ 6553

-- of each tuple of the class, as many rows wait as the extension rows below k pull
pub record Put (ext : List ℕ) (span rounds class : ℕ) (slots : Slots) (k : ℕ) : Type 0 where
  pub waits : (σ : Tuple) → class_of rounds σ ≡ class → held_to ext span slots σ 6553 ≡ pulled_to (tables [] ext) σ k

-- and then as many as are pulled and the execution rows below r did not take
pub record Taken (program exec ext : List ℕ) (span rounds class : ℕ) (slots : Slots) (r : ℕ) : Type 0 where
  pub waits : (σ : Tuple) → class_of rounds σ ≡ class
      → held_to ext span slots σ 6553 + pushed_to (given program []) (tables exec ext) σ r ≡ pulled_to (tables exec ext) σ (length ext / 120)
