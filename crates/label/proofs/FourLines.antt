-- The four lines of a label: their lengths, and that they stand one behind the other.
-- Assumes nothing.
use Prim.Native.Nat.{ℕ, ◌+◌}
use mathlib.Core.List.{List, ◌++◌}
use mathlib.Core.Path.{◌≡◌, ◌∙◌}
use native.Mathlib.Omega.{arith}
use lib.ListN.{length, length-append}
use Rattle.lines.specs.Line.{line, line_of}
use Rattle.lines.specs.Putting.{Room, Put}
use Rattle.lines.specs.declared.Out.{Out}
use Rattle.lines.proofs.Putting.{put_next}
use Rattle.label.specs.Label.{hex_digits, version_text, seed_text, m_text, n_text, label_of}
use Rattle.label.specs.declared.Recipe.{Recipe}

module _ (r : Recipe) where
  abbrev first : List ℕ
  first = line_of version_text r.version

  abbrev second : List ℕ
  second = line (seed_text ++ hex_digits 16 r.seed)

  abbrev third : List ℕ
  third = line_of m_text r.m

  abbrev fourth : List ℕ
  fourth = line_of n_text r.n

  pub four_long : length (label_of r) ≡ length first + length second + length third + length fourth
  unfolding label_of
  four_long =
      length-append (first ++ second ++ third) fourth
      ∙ omega (arith, length-append (first ++ second) third, length-append first second)

  pub four_put : {a b c d e : Out} → Room a (label_of r) → Put a first b → Put b second c → Put c third d → Put d fourth e → Put a (label_of r) e
  unfolding label_of
  four_put room f g h i =
      let two = length-append first second in
      let three = length-append (first ++ second) third in
      let four = length-append (first ++ second ++ third) fourth in
      put_next room (put_next (omega arith) (put_next (omega arith) f g) h) i
