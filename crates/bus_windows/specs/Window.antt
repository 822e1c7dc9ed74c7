-- Inner: a window, 1024 slots of tuples on the stack, each counted over both tables.
-- Declared in src/: Window (bus_search); sender (here).
use Rattle.std.specs.Prelude.{◌≡◌, ◌≢◌, Bool, cond, List, Option, Some, None, ℕ, ◌+◌, ◌-◌, ◌*◌, ◌≤◌, ◌<◌, get_or, set}
use Rattle.rules.specs.Given.{Given, Tables}
use Rattle.rules.specs.Bus.{Tuple, total}
use Rattle.bus_tuples.specs.Sent.{tuple_of}
use Rattle.bus_search.specs.Slots.{slot_of, is_slot}
use Rattle.bus_search.specs.declared.Window.{Window}
use Rattle.bus_windows.specs.declared.sender.Tally.{Tally}
use Rattle.bus_windows.specs.Senders.{Sending, sending_of, equal_at}

-- how often the senders below n push, and pull, what slot s holds
unfoldable pub plus_to : (ℕ → Sending) → (Tuple → Option ℕ) → ℕ → ℕ → ℕ
plus_to send slot s n = total (λ j. cond (is_slot (slot (send j).tuple) s) (send j).plus 0) n

unfoldable pub minus_to : (ℕ → Sending) → (Tuple → Option ℕ) → ℕ → ℕ → ℕ
minus_to send slot s n = total (λ j. cond (is_slot (slot (send j).tuple) s) (send j).minus 0) n

-- a slot's count after n senders: 2^31, and what they push, less what they pull
pub record Count (send : ℕ → Sending) (slot : Tuple → Option ℕ) (s n count : ℕ) : Type 0 where
  pub net : count + minus_to send slot s n ≡ 2147483648 + plus_to send slot s n
  pub plus_few : plus_to send slot s n ≤ n
  pub minus_few : minus_to send slot s n ≤ 3 * n

abbrev pub Counted : Given → Tables → Window → List ℕ → ℕ → Type 0
Counted g t w net n = (s : ℕ) → s < 1024 → Count (sending_of g t) (slot_of w) s n (get_or net s 0)

-- counts that take one sender more without leaving 32 bits
abbrev pub Countable : List ℕ → Type 0
Countable net = (s : ℕ) → s < 1024 → (3 ≤ get_or net s 0) × (get_or net s 0 < 4294967295)

-- the counts with what a sender sends, at its tuple's slot
abbrev pub tallied_at : Option ℕ → List ℕ → Tally → List ℕ
tallied_at None net x = net
tallied_at (Some s) net x = set net s (get_or net s 0 + x.plus - x.minus)

abbrev pub tallied : Window → List ℕ → Tally → List ℕ
tallied w net x = tallied_at (slot_of w (tuple_of x.sent)) net x

-- the slots hold the tuple of sender j, if it sends one
abbrev pub InWindow : Given → Tables → Window → ℕ → Type 0
InWindow g t w j = (sending_of g t j).plus + (sending_of g t j).minus ≢ 0 → slot_of w (sending_of g t j).tuple ≢ None

-- what the window says of sender j: that its tuple was not counted, or whether it is equal
abbrev pub StandsAt : Given → Tables → Window → ℕ → Option Bool → Type 0
StandsAt g t w j None = InWindow g t w j → ⊥
StandsAt g t w j (Some equal) = equal_at g t j ≡ equal
