-- Inner: what it is to put a text into a buffer, for all that puts one.
-- Declared in src/: Out (here).
use Rattle.std.specs.Prelude.{◌+◌, ◌≤◌, ◌≡◌, ℕ, List, length}
use Rattle.lines.specs.Line.{over}
use Rattle.lines.specs.declared.Out.{Out}

-- the text goes into what is left of the buffer
abbrev pub Room : Out → List ℕ → Type 0
Room out text = out.at + length text ≤ length out.bytes.now

-- the text stands where the place was, the place is behind it, and no other byte has changed; the buffer is the same
pub record Put (before : Out) (text : List ℕ) (after : Out) : Type 0 where
  pub place : after.at ≡ before.at + length text
  pub bytes : after.bytes.now ≡ over before.bytes.now before.at text
  pub long : length after.bytes.now ≡ length before.bytes.now
  pub same : after.bytes.ghost_name ≡ before.bytes.ghost_name
