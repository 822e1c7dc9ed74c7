-- What a window's contents say of single slots and marks.
-- Assumes nothing.
use Rattle.std.proofs.Common.{◌≡◌, ℕ, ◌+◌, ◌-◌, ◌/◌, ◌%◌, ◌^◌, ◌<◌, false, eqb, slice_index, slice_set, length, drop, replicate, ap, ◌∙◌, arith, get_or-set_same, length-drop}
use Rattle.std.proofs.lemmas.List.{get_or-replicate}
use Rattle.std.proofs.lemmas.List.Edits.{length-paste}
use Rattle.std.proofs.Math.Nat.{zero-div}
use Rattle.std.specs.List.{copy_within}
use Rattle.rules.specs.Bus.{Tuple}
use Rattle.bus_tuples.specs.Sent.{hash_of}
use Rattle.bus_search.specs.Marks.{mark_of, is_marked}
use Rattle.bus_search.specs.Slots.{key_of, empty, cleared, goes_to, inserted}
use Rattle.bus_search.specs.declared.Window.{Window}

-- no bit is set
pub empty_unmarked : (σ : Tuple) → is_marked empty.marks σ ≡ false
unfolding is_marked mark_of
empty_unmarked σ =
    let mark = hash_of σ / 1048576 % 16384 in
    let none : slice_index (replicate {A = ℕ} 256 0) (mark / 64) ≡ 0 = get_or-replicate 256 (mark / 64) 0 0 (omega arith) in
    ap (λ n. eqb (n / 2 ^ (mark % 64) % 2) 1) none ∙ ap (λ n. eqb (n % 2) 1) (zero-div (2 ^ (mark % 64)))

-- each slot is above every tuple
pub cleared_above : (w : Window) (s : ℕ) → s < 1024 → slice_index (cleared w).slots s ≡ 340282366920938463463374607431768211455
cleared_above w s h = get_or-replicate 1024 s 340282366920938463463374607431768211455 0 h

-- the tuple is where it goes
pub inserted_there : (w : Window) (used : ℕ) (σ : Tuple) → length w.slots ≡ 1024 → used < 1024
    → slice_index (inserted w used σ).slots (goes_to w.slots used σ) ≡ key_of σ
inserted_there w used σ all few = there (goes_to w.slots used σ) (omega arith)
  where
    there : (at : ℕ) → at < used + 1 → slice_index (slice_set (copy_within w.slots at used (at + 1)) at (key_of σ)) at ≡ key_of σ
    there at h =
        let rest = length-drop at w.slots in
        let same = length-paste w.slots (at + 1) (drop at w.slots) (used - at) (omega arith) (omega arith) in
        get_or-set_same (copy_within w.slots at used (at + 1)) at (key_of σ) 0 (omega (arith, same))
