-- A counter's name: its four texts, and how long it is.
-- Assumes nothing.
use Prim.Native.Nat.{ℕ, ◌+◌, ◌/◌, ◌%◌, ◌≤◌, ◌<◌}
use mathlib.Core.List.{List, ◌++◌}
use mathlib.Core.Path.{◌≡◌, refl, ◌∙◌}
use native.Mathlib.Omega.{arith}
use borrow.Author.Tests.{leb-true}
use lib.Dec.{leb}
use lib.ListN.{length, length-append}
use Rattle.text_fields.specs.Digit.{every}
use Rattle.text_fields.proofs.Every.{every_at}
use Rattle.lines.specs.Putting.{Room, Put}
use Rattle.lines.specs.declared.Out.{Out}
use Rattle.lines.proofs.Putting.{put_next}
use Rattle.grid_spec.specs.Report.{kind_text, mode_text, dotted, equals, name_of}

module _ (k : ℕ) where
  abbrev first : List ℕ
  first = dotted (kind_text (k / 27))

  abbrev second : List ℕ
  second = dotted (mode_text (k / 9 % 3))

  abbrev third : List ℕ
  third = dotted (mode_text (k / 3 % 3))

  abbrev fourth : List ℕ
  fourth = equals (mode_text (k % 3))

  pub name_length : length (name_of k) ≡ length first + length second + length third + length fourth
  unfolding name_of
  name_length =
      length-append (first ++ second ++ third) fourth
      ∙ omega (arith, length-append (first ++ second) third, length-append first second)

  pub name_put : {a b c d e : Out} → Room a (name_of k) → Put a first b → Put b second c → Put c third d → Put d fourth e → Put a (name_of k) e
  unfolding name_of
  name_put room f g h i =
      let two = length-append first second in
      let three = length-append (first ++ second) third in
      let four = length-append (first ++ second ++ third) fourth in
      put_next room (put_next (omega arith) (put_next (omega arith) f g) h) i

  pub name_most : k < 135 → length (name_of k) ≤ 21
  unfolding name_of every
  name_most h = leb-true (length (name_of k)) 21 (every_at (λ j. leb (length (name_of j)) 21) 135 k h refl)
