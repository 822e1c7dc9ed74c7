-- The theorem of specs/Streams, from the laws of advances and of the period.
-- Assumes nothing.
use mathlib.Core.Path.{◌≡◌, refl, sym, ◌∙◌, ap}
use Prim.Native.Nat.{ℕ, suc, ◌+◌, ◌*◌, ◌^◌, ◌≤◌, ◌<◌}
use native.Mathlib.Omega.{arith}
use lib.ListN.{length, get_or}
use borrow.Author.Tests.{lt-ltb, le-ltb}
use Rattle.answer.specs.Answers.{Accepted, Host}
use Rattle.draw.specs.Draw.{draw_of}
use Rattle.draw.specs.declared.Generator.{Generator}
use Rattle.stream_spec.specs.Stream.{advances, after, draw_at}
use Rattle.stream_spec.specs.Pairs.{doubled, pairs_from, table, pair_of}
use Rattle.stream_spec.specs.declared.Pair.{Pair}
use Rattle.stream_spec.specs.Host.{hosts, own_draws, start_of}
use Rattle.stream_law.specs.Streams.{Whole, Streams}
use Rattle.stream_law.proofs.Advances.{advances_none, advances_add, entry, pair_advances}
use Rattle.stream_law.proofs.Period.{pair_after, leads_back, one_place, two_jumps as jumps-of-a-state}

abbrev at : ℕ → Generator
at s = record { state = s }

one_more : (n : ℕ) (g : Generator) → after (suc n) g ≡ (draw_of (after n g)).next
unfolding advances
one_more n g = refl

table_entry : (i : ℕ) (d : Pair) → i < length table → get_or table i d ≡ pair_of i
unfolding pairs_from
table_entry i d h = entry i d h

pair_after_last : doubled (pair_of 63) ≡ record { multiplier = 1; increment = 0 }
unfolding pair_of
pair_after_last = pair_after

host_starts : (g : Generator) (k : ℕ) → k < hosts → start_of g k ≡ record { answer = Accepted; generator = after (k * own_draws) g }
unfolding start_of
host_starts g k h = rw (lt-ltb k hosts h)

host_refused : (g : Generator) (k : ℕ) → hosts ≤ k → start_of g k ≡ record { answer = Host; generator = g }
unfolding start_of
host_refused g k h = rw (le-ltb k hosts h)

-- a host's place i in the one stream
host_place : (g : Generator) (k i : ℕ) → k < hosts → after i (start_of g k).generator ≡ after (k * own_draws + i) g
host_place g k i h =
    let sum : i + k * own_draws ≡ k * own_draws + i = omega arith in
    rw (host_starts g k h)
    (ap at (sym (advances_add i (k * own_draws) g.state) ∙ ap (λ (n : ℕ). advances n g.state) sum))

host_draws : (g : Generator) (k i : ℕ) → k < hosts → draw_at i (start_of g k).generator ≡ draw_at (k * own_draws + i) g
host_draws g k i h = ap (λ (x : Generator). (draw_of x).number) (host_place g k i h)

hosts_apart : (g : Generator) (k l i j : ℕ) → Whole g → k < hosts → l < hosts → (k ≡ l → ⊥) → i < own_draws → j < own_draws
    → (k * own_draws + i < 2 ^ 64)
    × (k * own_draws + i ≡ l * own_draws + j → ⊥)
    × (after i (start_of g k).generator ≡ after j (start_of g l).generator → ⊥)
hosts_apart g k l i j w hk hl other hi hj =
    let within : k * own_draws + i < 2 ^ 64 = omega arith in
    let elsewhere : k * own_draws + i ≡ l * own_draws + j → ⊥ = λ e. other (omega arith) in (
      within,
      elsewhere,
      λ e.
          elsewhere
          (one_place g.state (k * own_draws + i) (l * own_draws + j) w within (omega arith)
          (ap (λ (x : Generator). x.state) (sym (host_place g k i hk) ∙ e ∙ host_place g l j hl))),
    )

pub streams : Streams
streams = record {
  no_draw = λ g. ap at (advances_none g.state);
  one_more = one_more;
  table_entry = table_entry;
  pair_of_draws = λ i s. ap at (sym (pair_advances i s));
  pair_after_last = pair_after_last;
  two_jumps = λ j k g w. ap at (jumps-of-a-state j k g.state w);
  period = λ n g w. (
    λ back. (leads_back g.state w n).0 (ap (λ (x : Generator). x.state) back),
    λ e. ap at ((leads_back g.state w n).1 e),
  );
  host_starts = host_starts;
  host_refused = host_refused;
  host_draws = host_draws;
  hosts_apart = hosts_apart;
}
