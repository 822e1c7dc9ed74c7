-- Bytes in the place of others; one text after another is both as one.
-- Assumes nothing.
use Prim.Native.Nat.{ℕ, ◌+◌, ◌≤◌}
use mathlib.Core.List.{List, [], ◌++◌, append_assoc, append-nil}
use mathlib.Core.Path.{◌≡◌, sym, ap, ◌∙◌}
use native.Mathlib.Nat.{add_assoc, add-zero, zero-add}
use native.Mathlib.Omega.{arith}
use lib.ListN.{length, take, drop, length-append, length-drop, take-append-drop}
use lib.Seq.{take_at, drop_at, drop-drop, length-take-le}
use Rattle.lines.specs.Line.{over}

module _ (out : List ℕ) (at : ℕ) (bytes : List ℕ) where
  -- what stands before the end of the bytes
  head_length : at ≤ length out → length (take at out ++ bytes) ≡ at + length bytes
  head_length h = length-append (take at out) bytes ∙ ap (λ (n : ℕ). n + length bytes) (length-take-le at out h)

  pub over_length : at + length bytes ≤ length out → length (over out at bytes) ≡ length out
  over_length h =
      length-append (take at out ++ bytes) (drop (at + length bytes) out)
      ∙ omega (arith, head_length (omega arith), length-drop (at + length bytes) out)

  pub over_then : (next : List ℕ) → at + length bytes ≤ length out
      → over (over out at bytes) (at + length bytes) next ≡ over out at (bytes ++ next)
  over_then next h =
      let head = head_length (omega arith) in
      let behind : List ℕ = drop (at + length bytes) out in
      let e : at + length bytes + length next ≡ at + length (bytes ++ next) =
      add_assoc at (length bytes) (length next) ∙ ap (λ (n : ℕ). at + n) (sym (length-append bytes next)) in
      rw (
        take_at (take at out ++ bytes) behind (at + length bytes) head,
        ← drop-drop (length next) (at + length bytes) (over out at bytes),
        drop_at (take at out ++ bytes) behind (at + length bytes) head,
        drop-drop (length next) (at + length bytes) out,
        e,
        append_assoc (take at out) bytes next,
      )

-- no bytes leave a buffer as it is
pub over_none : (out : List ℕ) (at : ℕ) → out ≡ over out at []
over_none out at = sym (rw (append-nil (take at out), add-zero at) (take-append-drop at out))

-- bytes at the front
pub over_front : (out bytes : List ℕ) → over out 0 bytes ≡ bytes ++ drop (length bytes) out
over_front out bytes = rw (zero-add (length bytes))

-- a text stands in a buffer, and so far it goes
abbrev pub Stands : List ℕ → ℕ → List ℕ → ℕ → List ℕ → Type 0
Stands out at text end l = (end ≡ at + length text) × (l ≡ over out at text)
