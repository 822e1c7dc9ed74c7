-- The lines of an answer, one after the other: four, two, and all six.
-- Assumes nothing.
use Prim.Native.Nat.{◌+◌, ◌≤◌}
use mathlib.Core.List.{◌++◌}
use native.Mathlib.Omega.{arith}
use lib.ListN.{length, length-append}
use Rattle.answer.specs.declared.Numbers.{Numbers}
use Rattle.lines.specs.Line.{line_of}
use Rattle.lines.proofs.Numbers.{line_most}
use Rattle.lines.specs.Putting.{Put}
use Rattle.lines.specs.declared.Out.{Out}
use Rattle.lines.proofs.Putting.{put_next}
use Rattle.replay.specs.Replay.{verdict_text, part_text, place_text, rule_text, expected_text, found_text, four_lines, two_lines}

module _ (n : Numbers) where
  pub lines_most : (length (line_of verdict_text n.verdict) ≤ 29) × (length (line_of part_text n.part) ≤ 26)
      × (length (line_of place_text n.place) ≤ 27) × (length (line_of rule_text n.rule) ≤ 26)
  lines_most = (line_most verdict_text n.verdict, line_most part_text n.part, line_most place_text n.place, line_most rule_text n.rule)

  pub stood_most : (length (line_of expected_text n.expected) ≤ 30) × (length (line_of found_text n.found) ≤ 27)
  stood_most = (line_most expected_text n.expected, line_most found_text n.found)

  pub four_long : length (four_lines n) ≤ 108
  four_long =
      let a = line_of verdict_text n.verdict in
      let b = line_of part_text n.part in
      let c = line_of place_text n.place in
      omega (arith, lines_most, length-append (a ++ b ++ c) (line_of rule_text n.rule), length-append (a ++ b) c, length-append a b)

  pub four_put : {a b c d e : Out} → a.at + 108 ≤ length a.bytes.now
      → Put a (line_of verdict_text n.verdict) b
      → Put b (line_of part_text n.part) c
      → Put c (line_of place_text n.place) d
      → Put d (line_of rule_text n.rule) e
      → Put a (four_lines n) e
  four_put room f g h i =
      let v = line_of verdict_text n.verdict in
      let p = line_of part_text n.part in
      let l = line_of place_text n.place in
      let two = length-append v p in
      let three = length-append (v ++ p) l in
      let four = length-append (v ++ p ++ l) (line_of rule_text n.rule) in
      put_next (omega (arith, lines_most)) (put_next (omega (arith, lines_most)) (put_next (omega (arith, lines_most)) f g) h) i

  pub two_put : {a b c : Out} → a.at + 57 ≤ length a.bytes.now
      → Put a (line_of expected_text n.expected) b
      → Put b (line_of found_text n.found) c
      → Put a (two_lines n) c
  two_put room f g =
      let two = length-append (line_of expected_text n.expected) (line_of found_text n.found) in
      put_next (omega (arith, stood_most)) f g

  pub six_put : {a b c : Out} → a.at + 165 ≤ length a.bytes.now → Put a (four_lines n) b → Put b (two_lines n) c
      → Put a (four_lines n ++ two_lines n) c
  six_put room f g =
      let six = length-append (four_lines n) (two_lines n) in
      let two = length-append (line_of expected_text n.expected) (line_of found_text n.found) in
      put_next (omega (arith, four_long, stood_most)) f g
