-- Inner: the execution rows and then the extension rows as one sequence of senders, in the order in which verdict 7
-- tries them.
-- Declared in src/: ops (std); sender (here).
use Rattle.std.specs.Prelude.{◌≡◌, ◌≢◌, Bool, ◌||◌, cond, [], Option, Some, None, ℕ, ◌+◌, ◌-◌, ◌≤◌, ◌<◌, ltb}
use Rattle.std.specs.declared.ops.ControlFlow.{ControlFlow}
use Rattle.std.specs.declared.ops.ControlFlow.TheVariants.{Continue, Break}
use Rattle.rules.specs.Given.{Given, Tables, zero?}
use Rattle.rules.specs.Bus.{Tuple, pushed, pushes, pulled, pulls, instruction_of, balanced}
use Rattle.rules.specs.Sizes.{given, tables}
use Rattle.judge_spec.specs.First.{first}
use Rattle.bus_tuples.specs.Sent.{tuple_of}
use Rattle.bus_windows.specs.declared.sender.Tally.{Tally}
use Rattle.bus_windows.specs.declared.sender.Senders.{Senders}

-- what is given beside the tables, and both tables
abbrev pub given_of : Senders → Given
given_of s = given s.rows.program.now []

abbrev pub tables_of : Senders → Tables
tables_of s = tables s.rows.exec.now s.ext.now

-- how often a row pushes, and pulls
abbrev pub push_times : Given → Tables → ℕ → ℕ
push_times g t r = pushes (instruction_of g t r)

abbrev pub pull_times : Tables → ℕ → ℕ
pull_times t k = pulls (t.ext k)

-- a tuple, how often it is pushed, and how often it is pulled
pub record Sending : Type 0 where
  pub tuple : Tuple
  pub plus : ℕ
  pub minus : ℕ

abbrev pub push_sent : Given → Tables → ℕ → Sending
push_sent g t r = record { tuple = pushed (instruction_of g t r) (t.exec r); plus = push_times g t r; minus = 0 }

abbrev pub pull_sent : Tables → ℕ → Sending
pull_sent t k = record { tuple = pulled (t.ext k); plus = 0; minus = pull_times t k }

-- sender j: execution row j, and after the last of those extension row j - H
unfoldable pub sending_of : Given → Tables → ℕ → Sending
sending_of g t j = cond (ltb j t.height) (push_sent g t j) (pull_sent t (j - t.height))

abbrev pub senders : Tables → ℕ
senders t = t.height + t.ext_height

-- what the code reads of a sender that sends
pub record Tallies (x : Tally) (s : Sending) : Type 0 where
  pub plus_is : x.plus ≡ s.plus
  pub minus_is : x.minus ≡ s.minus
  pub some : x.plus + x.minus ≢ 0
  pub tuple_is : tuple_of x.sent ≡ s.tuple

-- and of any sender
abbrev pub Reads : Option Tally → Sending → Type 0
Reads None s = s.plus + s.minus ≡ 0
Reads (Some x) s = Tallies x s

-- a sender that sends nothing, or whose tuple is pushed as often as it is pulled
unfoldable pub equal_at : Given → Tables → ℕ → Bool
equal_at g t j = zero? ((sending_of g t j).plus + (sending_of g t j).minus) || balanced g t (sending_of g t j).tuple

-- what a look at the senders from one on and below another says: the first whose tuple is unequal, or a later one with
-- none before it
pub record GoesOn (equal : ℕ → Bool) (from to at : ℕ) : Type 0 where
  pub goes : from < at
  pub within : at ≤ to
  pub left : first equal from (to - from) ≡ first equal at (to - at)

pub record Stops (equal : ℕ → Bool) (from to at : ℕ) : Type 0 where
  pub below : at < to
  pub is_first : at ≡ first equal from (to - from)

abbrev pub LooksFrom : Given → Tables → ℕ → ℕ → ControlFlow ℕ ℕ → Type 0
LooksFrom g t from to (Break at) = Stops (equal_at g t) from to at
LooksFrom g t from to (Continue at) = GoesOn (equal_at g t) from to at

-- the first sender whose tuple is unequal, if there is one
abbrev pub FirstFrom : Given → Tables → ℕ → ℕ → Option ℕ → Type 0
FirstFrom g t from to None = first (equal_at g t) from (to - from) ≡ to
FirstFrom g t from to (Some at) = Stops (equal_at g t) from to at
