-- Inner: the slots of a window, numbers that hold tuples. A tuple's slot is a function of the tuple and of the window's
-- contents.
-- Declared in src/: Window (here).
use Rattle.std.specs.Prelude.{ℕ, zero, suc, ◌+◌, ◌*◌, ◌/◌, ◌%◌, ◌==◌, min, Bool, false, cond, ◌&&◌, List, replicate, Option, Some, None, nat_le, slice_index, slice_set}
use Rattle.std.specs.List.{copy_within}
use Rattle.rules.specs.Bus.{Tuple, same_tuple}
use Rattle.bus_search.specs.Marks.{is_marked, with_mark}
use Rattle.bus_search.specs.declared.Window.{Window}

-- a tuple as a number: its words, from the first down
abbrev pub key_of : Tuple → ℕ
key_of σ = (σ.aux * 4294967296 + σ.left) * 18446744073709551616 + (σ.right * 4294967296 + σ.out)

-- the tuple of a slot
abbrev pub tuple_in : ℕ → Tuple
tuple_in x =
    record {
      aux = x / 18446744073709551616 / 4294967296;
      left = x / 18446744073709551616 % 4294967296;
      right = x % 18446744073709551616 / 4294967296;
      out = x % 18446744073709551616 % 4294967296;
    }

-- halving steps through the sorted slots
unfoldable pub stepped : List ℕ → ℕ → ℕ → ℕ → ℕ
stepped slots key at step = cond (nat_le (slice_index slots (at + step)) key) (at + step) at

unfoldable pub descended : List ℕ → ℕ → ℕ → ℕ → ℕ → ℕ
descended slots key zero at step = at
descended slots key (suc k) at step = descended slots key k (stepped slots key at step) (step / 2)

unfoldable pub place_of : List ℕ → Tuple → ℕ
place_of slots σ = descended slots (key_of σ) 10 0 512

-- whether slot s holds a tuple
abbrev pub holds : List ℕ → ℕ → Tuple → Bool
holds slots s σ = same_tuple (tuple_in (slice_index slots s)) σ

-- the slot that holds a tuple: slot 0, or the one that the steps lead to, if the tuple is marked
unfoldable pub slot_of : Window → Tuple → Option ℕ
slot_of w σ =
    cond (holds w.slots 0 σ) (Some 0)
    (cond (is_marked w.marks σ && holds w.slots (place_of w.slots σ) σ) (Some (place_of w.slots σ)) None)

-- whether a tuple's slot is slot s
abbrev pub is_slot : Option ℕ → ℕ → Bool
is_slot None s = false
is_slot (Some q) s = q == s

-- a window of zeros
abbrev pub empty : Window
empty = record { slots = replicate 1024 0; marks = replicate 256 0 }

-- a window with no slot in use: each is above every tuple
abbrev pub cleared : Window → Window
cleared w = record { slots = replicate 1024 340282366920938463463374607431768211455; marks = w.marks }

-- where a tuple goes among the sorted slots, of which those below `used` are used
abbrev pub goes_to : List ℕ → ℕ → Tuple → ℕ
goes_to slots used σ = min (place_of slots σ + 1) used

-- a window with a tuple there, marked: the used slots from there on are one further
abbrev pub inserted : Window → ℕ → Tuple → Window
inserted w used σ =
    record {
      slots =
          slice_set (copy_within w.slots (goes_to w.slots used σ) used (goes_to w.slots used σ + 1))
          (goes_to w.slots used σ) (key_of σ);
      marks = with_mark w.marks σ;
    }

-- a window with a tuple in slot 0
abbrev pub inserted_first : Window → Tuple → Window
inserted_first w σ = record { slots = slice_set w.slots 0 (key_of σ); marks = w.marks }
