-- Texts that are put, each where the one before it ends.
-- Assumes nothing.
use Prim.Native.Nat.{ℕ}
use mathlib.Core.List.{List, [], ◌++◌}
use mathlib.Core.Path.{◌≡◌, refl, ◌∙◌}
use native.Mathlib.Omega.{arith}
use lib.ListN.{length, drop, length-append}
use Rattle.lines.specs.Putting.{Room, Put}
use Rattle.lines.specs.declared.Out.{Out}
use Rattle.lines.proofs.Placing.{over_then, over_none, over_front}

-- nothing
pub put_none : (a : Out) → Put a [] a
put_none a = record { place = omega arith; bytes = over_none a.bytes.now a.at; long = refl; same = refl }

-- one text behind another is both as one
pub put_next : {a b c : Out} {text next : List ℕ} → Room a (text ++ next) → Put a text b → Put b next c → Put a (text ++ next) c
put_next {a} {text = text} {next = next} room first second =
    let long = length-append text next in
    record {
      place = omega arith;
      bytes = second.bytes ∙ rw (first.place, first.bytes) (over_then a.bytes.now a.at text next (omega arith));
      long = second.long ∙ first.long;
      same = second.same ∙ first.same;
    }

-- a text at the front of the buffer
pub put_front : {a b : Out} {text : List ℕ} → a.at ≡ 0 → Put a text b → b.bytes.now ≡ text ++ drop (length text) a.bytes.now
put_front {a} {text = text} e put = put.bytes ∙ rw e (over_front a.bytes.now text)
