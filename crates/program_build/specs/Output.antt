-- Document 01, "Draws, recipe, label": both programs read the label, as the whole of standard input, and write to
-- standard output.
use Rattle.std.specs.Prelude.{ℕ, List, ◌++◌, ◌≡◌, length, drop}
use Rattle.label.specs.Reading.{Reading, Reads}

-- bytes stand at the front of a buffer, and so many they are; the others stay
pub record Fills (bytes before after : List ℕ) (size : ℕ) : Type 0 where
  pub sized : size ≡ length bytes
  pub filled : after ≡ bytes ++ drop (length bytes) before

-- a program's promise, where `output` says what it writes for a reading: it reads the text, and writes that
pub record Outputs (output : Reading → List ℕ) (text before after : List ℕ) (size : ℕ) : Type 0 where
  pub reading : Reading
  pub reads : Reads text reading
  pub fills : Fills (output reading) before after size
