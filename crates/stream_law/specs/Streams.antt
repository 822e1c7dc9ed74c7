-- Document 02, M-106: "A campaign runs on many hosts. Host k should start k·2^40 draws further on, for k below 2^24
-- [..] A jump of j equals j single advances. A jump of j and then of k equals a jump of their sum modulo 2^64.
-- Refusals: 18 HOST for k at or above 2^24; the generator is returned as it came."
-- `after` is what `stream::jump` promises, `start_of` what `stream::start` does, `table` what `stream_pairs::pairs`
-- does (stream_spec).
-- Declared in src/: Generator (draw); Pair (stream_spec).
use Rattle.std.specs.Prelude.{ℕ, suc, ◌+◌, ◌*◌, ◌%◌, ◌^◌, ◌≤◌, ◌<◌, ◌↔◌, ◌≡◌, length, get_or}
use Rattle.answer.specs.Answers.{Accepted, Host}
use Rattle.draw.specs.Draw.{draw_of}
use Rattle.draw.specs.declared.Generator.{Generator}
use Rattle.stream_spec.specs.Stream.{after, draw_at}
use Rattle.stream_spec.specs.Pairs.{applied, doubled, table, pair_of}
use Rattle.stream_spec.specs.declared.Pair.{Pair}
use Rattle.stream_spec.specs.Host.{hosts, own_draws, start_of}

-- a state of 64 bits
abbrev pub Whole : Generator → Type 0
Whole g = g.state < 2 ^ 64

pub record Streams : Type 0 where
  -- a jump of 0 is nothing, and one draw more leads one draw further: so a jump of j is j single draws
  pub no_draw : (g : Generator) → after 0 g ≡ g
  pub one_more : (n : ℕ) (g : Generator) → after (suc n) g ≡ (draw_of (after n g)).next
  -- entry i of the table is the pair of 2^i draws at once, and the pair after the last is multiplier 1, increment 0
  pub table_entry : (i : ℕ) (d : Pair) → i < length table → get_or table i d ≡ pair_of i
  pub pair_of_draws : (i s : ℕ) → after (2 ^ i) (record { state = s }) ≡ record { state = applied (pair_of i) s }
  pub pair_after_last : doubled (pair_of 63) ≡ record { multiplier = 1; increment = 0 }
  -- two jumps are one, of the sum modulo 2^64
  pub two_jumps : (j k : ℕ) (g : Generator) → Whole g → after k (after j g) ≡ after ((j + k) % 2 ^ 64) g
  -- for the period is 2^64: so many draws lead back, and no fewer do
  pub period : (n : ℕ) (g : Generator) → Whole g → (after n g ≡ g) ↔ (n % 2 ^ 64 ≡ 0)
  -- host k below 2^24 starts k·2^40 draws further on; any other is refused, and the generator is as it came
  pub host_starts : (g : Generator) (k : ℕ) → k < hosts → start_of g k ≡ record { answer = Accepted; generator = after (k * own_draws) g }
  pub host_refused : (g : Generator) (k : ℕ) → hosts ≤ k → start_of g k ≡ record { answer = Host; generator = g }
  -- a host's draws are draws of the one stream
  pub host_draws : (g : Generator) (k i : ℕ) → k < hosts → draw_at i (start_of g k).generator ≡ draw_at (k * own_draws + i) g
  -- and the first 2^40 of two hosts do not overlap: each stands elsewhere in the stream, before the stream repeats, and
  -- the generator that draws it has another state
  pub hosts_apart : (g : Generator) (k l i j : ℕ) → Whole g → k < hosts → l < hosts → (k ≡ l → ⊥) → i < own_draws → j < own_draws
      → (k * own_draws + i < 2 ^ 64)
      × (k * own_draws + i ≡ l * own_draws + j → ⊥)
      × (after i (start_of g k).generator ≡ after j (start_of g l).generator → ⊥)
