-- Counting by slots: a slot holds one tuple, and so its count is its tuple's.
-- Assumes nothing.
use mathlib.Core.Path.{◌≡◌, refl, sym, ap}
use mathlib.Core.Bool.{Bool, true, false, cond}
use mathlib.Core.List.{List}
use Prim.Native.Nat.{ℕ, ◌+◌, ◌-◌, ◌≤◌, ◌<◌}
use native.Mathlib.Omega.{arith}
use lib.ListN.{length, get_or, set, get_or-eq_default}
use lib.Seq.{get_or-set_same, get_or-set_other}
use lib.Dec.{eqb, ltb}
use borrow.Author.Tests.{eqb-true, eqb-false, eq-eqb, ne_eqb, ltb-true, ltb-false}
use Rattle.std.specs.Prelude.{Option, Some, None}
use Rattle.rules.specs.Given.{Given, Tables}
use Rattle.rules.specs.Bus.{Tuple, same_tuple, pushed, pushes, pulled, pulls, instruction_of, pushed_to, pulled_to, balanced}
use Rattle.bus_tuples.specs.Sent.{tuple_of}
use Rattle.bus_search.specs.Slots.{slot_of, is_slot}
use Rattle.bus_search.specs.declared.Window.{Window}
use Rattle.bus_search.proofs.Slots.{slot_same}
use Rattle.bus_tuples.proofs.Totals.{one_more, counts_none}
use Rattle.bus_windows.specs.declared.sender.Tally.{Tally}
use Rattle.bus_windows.specs.Senders.{Sending, sending_of, Tallies}
use Rattle.bus_windows.specs.Window.{plus_to, minus_to, Count, Counted, Countable, tallied_at, tallied}
use Rattle.bus_windows.proofs.Joined.{total_join, total_none, send_push, send_pull}

-- a sender that is read sends
pub is_sent : (g : Given) (t : Tables) (n : ℕ) (x : Tally) → Tallies x (sending_of g t n) → (sending_of g t n).plus + (sending_of g t n).minus ≡ 0 → ⊥
is_sent g t n x reads none = reads.some (omega (arith, reads.plus_is, reads.minus_is))

-- a slot whose count is not 0 is there
within : (net : List ℕ) (s : ℕ) → 3 ≤ get_or net s 0 → s < length net
within net s some = go (ltb s (length net)) refl
  where
    go : (b : Bool) → ltb s (length net) ≡ b → s < length net
    go true t = ltb-true s (length net) t
    go false t = absurd (omega (arith, get_or-eq_default net 0 (ltb-false s (length net) t)))

module _ (send : ℕ → Sending) (slot : Tuple → Option ℕ) where
  pub starts : (s count : ℕ) → count ≡ 2147483648 → Count send slot s 0 count
  unfolding plus_to minus_to
  starts s count e = record { net = omega arith; plus_few = omega arith; minus_few = omega arith }

  -- a count stays within 32 bits
  pub has_room : {s n count : ℕ} → Count send slot s n count → n < 536870912 → (3 ≤ count) × (count < 4294967295)
  has_room c few = (omega (arith, c.net, c.plus_few, c.minus_few), omega (arith, c.net, c.plus_few, c.minus_few))

  -- one sender more, that adds so much to a slot
  counts_on : (s n count more plus minus : ℕ)
      → cond (is_slot (slot (send n).tuple) s) (send n).plus 0 ≡ plus → cond (is_slot (slot (send n).tuple) s) (send n).minus 0 ≡ minus
      → plus ≤ 1 → minus ≤ 3 → more + minus ≡ count + plus → Count send slot s n count → Count send slot s (n + 1) more
  unfolding plus_to minus_to
  counts_on s n count more plus minus p m once thrice e c =
      let pushes-more = one_more (λ j. cond (is_slot (slot (send j).tuple) s) (send j).plus 0) n in
      let pulls-more = one_more (λ j. cond (is_slot (slot (send j).tuple) s) (send j).minus 0) n in
      record {
        net = omega (arith, c.net);
        plus_few = omega (arith, c.plus_few);
        minus_few = omega (arith, c.minus_few);
      }

  -- and one that adds nothing to it
  counts_off : (s n count : ℕ)
      → cond (is_slot (slot (send n).tuple) s) (send n).plus 0 ≡ 0 → cond (is_slot (slot (send n).tuple) s) (send n).minus 0 ≡ 0
      → Count send slot s n count → Count send slot s (n + 1) count
  counts_off s n count p m c = counts_on s n count count 0 0 p m (omega arith) (omega arith) refl c

module _ (g : Given) (t : Tables) (w : Window) (net : List ℕ) (n : ℕ) (counted : Counted g t w net n) where
  pub countable : n < 536870912 → Countable net
  countable few s h = has_room (sending_of g t) (slot_of w) (counted s h) few

  -- a sender that sends nothing
  pub counts_nothing : (sending_of g t n).plus + (sending_of g t n).minus ≡ 0 → Counted g t w net (n + 1)
  counts_nothing none s h =
      let here = is_slot (slot_of w (sending_of g t n).tuple) s in
      counts_off (sending_of g t) (slot_of w) s n (get_or net s 0)
      (counts_none here (sending_of g t n).plus (omega arith)) (counts_none here (sending_of g t n).minus (omega arith)) (counted s h)

  -- and one that does, as the code counts it
  module _ (x : Tally) (reads : Tallies x (sending_of g t n)) (few : n < 536870912) where
    counts_at : (o : Option ℕ) → slot_of w (sending_of g t n).tuple ≡ o → Counted g t w (tallied_at o net x) (n + 1)
    counts_at None at s h = counts_off (sending_of g t) (slot_of w) s n (get_or net s 0) (rw at) (rw at) (counted s h)
    counts_at (Some q) at s h = go (eqb q s) refl
      where
        value : ℕ
        value = get_or net q 0 + x.plus - x.minus

        go : (b : Bool) → eqb q s ≡ b → Count (sending_of g t) (slot_of w) s (n + 1) (get_or (set net q value) s 0)
        go true e =
            let is : q ≡ s = eqb-true q s e in
            let room = has_room (sending_of g t) (slot_of w) (counted s h) few in
            let stored : get_or (set net q value) s 0 ≡ value = rw is (get_or-set_same net s (get_or net s 0 + x.plus - x.minus) 0 (within net s room.0)) in
            counts_on (sending_of g t) (slot_of w) s n (get_or net s 0) (get_or (set net q value) s 0) x.plus x.minus
            (rw (at, e) (sym reads.plus_is)) (rw (at, e) (sym reads.minus_is)) x.once x.thrice
            (rw (stored, is) (omega (arith, room.0, x.thrice))) (counted s h)
        go false e =
            let kept : get_or (set net q value) s 0 ≡ get_or net s 0 = get_or-set_other net q s value 0 (λ other. eqb-false q s e (sym other)) in
            rw kept (counts_off (sending_of g t) (slot_of w) s n (get_or net s 0) (rw (at, e)) (rw (at, e)) (counted s h))

    pub counts_one : Counted g t w (tallied w net x) (n + 1)
    counts_one = counts_at (slot_of w (tuple_of x.sent)) (ap (slot_of w) (sym reads.tuple_is))

-- after every sender a slot's count says whether its tuple is pushed as often as it is pulled
module _ (g : Given) (t : Tables) (w : Window) (σ : Tuple) (s : ℕ) (is : slot_of w σ ≡ Some s) where
  all_pushes : plus_to (sending_of g t) (slot_of w) s (t.height + t.ext_height) ≡ pushed_to g t σ t.height
  unfolding plus_to
  all_pushes =
      let joined =
      total_join (λ j. cond (is_slot (slot_of w (sending_of g t j).tuple) s) (sending_of g t j).plus 0)
      (λ r. cond (same_tuple (pushed (instruction_of g t r) (t.exec r)) σ) (pushes (instruction_of g t r)) 0)
      (λ k. 0) t.height t.ext_height
      (λ r b. rw (send_push g t r b, slot_same w σ (pushed (instruction_of g t r) (t.exec r)) s is))
      (λ k b. rw (send_pull g t k) (counts_none (is_slot (slot_of w (pulled (t.ext k))) s) 0 refl)) in
      omega (arith, total_none t.ext_height)

  all_pulls : minus_to (sending_of g t) (slot_of w) s (t.height + t.ext_height) ≡ pulled_to t σ t.ext_height
  unfolding minus_to
  all_pulls =
      let joined =
      total_join (λ j. cond (is_slot (slot_of w (sending_of g t j).tuple) s) (sending_of g t j).minus 0)
      (λ r. 0)
      (λ k. cond (same_tuple (pulled (t.ext k)) σ) (pulls (t.ext k)) 0)
      t.height t.ext_height
      (λ r b. rw (send_push g t r b) (counts_none (is_slot (slot_of w (pushed (instruction_of g t r) (t.exec r))) s) 0 refl))
      (λ k b. rw (send_pull g t k, slot_same w σ (pulled (t.ext k)) s is)) in
      omega (arith, total_none t.height)

  -- whatever the test of the count says
  pub count_says : (count : ℕ) → Count (sending_of g t) (slot_of w) s (t.height + t.ext_height) count → balanced g t σ ≡ eqb count 2147483648
  count_says count c = go (eqb count 2147483648) refl
    where
      go : (b : Bool) → eqb count 2147483648 ≡ b → balanced g t σ ≡ b
      go true e =
          eq-eqb (pushed_to g t σ t.height) (pulled_to t σ t.ext_height)
          (omega (arith, c.net, all_pushes, all_pulls, eqb-true count 2147483648 e))
      go false e =
          ne_eqb (pushed_to g t σ t.height) (pulled_to t σ t.ext_height)
          (λ q. eqb-false count 2147483648 e (omega (arith, c.net, all_pushes, all_pulls)))
