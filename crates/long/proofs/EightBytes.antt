-- Numbers in eight bytes: what writing one comes to, and that it reads back.
-- Assumes nothing.
use mathlib.Core.Path.{◌≡◌, ◌∙◌}
use mathlib.Core.List.{List, ◌++◌, append_assoc}
use Prim.Native.Nat.{ℕ, ◌+◌, ◌/◌, ◌%◌, ◌^◌, ◌≤◌, ◌<◌}
use native.Mathlib.Omega.{arith}
use lib.ListN.{length, take, drop, length-append, length-drop}
use lib.Seq.{take_at, drop_at, drop-drop, length-take-le}
use borrow.Author.Tests.{le-leb}
use Rattle.word.specs.Bytes.{word_at, bytes_of, with_word}
use Rattle.word.proofs.FourBytes.{read_bytes}
use Rattle.long.specs.Long.{long_at, long_bytes}

-- two words put one after the other
pub two_words : (s : List ℕ) (at x y : ℕ) → at + 8 ≤ length s
    → with_word (with_word s at x) (at + 4) y ≡ take at s ++ (bytes_of x ++ bytes_of y) ++ drop (at + 8) s
unfolding with_word
two_words s at x y h =
    let head : length (take at s ++ bytes_of x) ≡ at + 4 = length-append (take at s) (bytes_of x) ∙ omega (arith, length-take-le at s (omega arith)) in
    let behind : List ℕ = drop (at + 4) s in
    let whole : at + 4 + 4 ≤ length (take at s ++ bytes_of x ++ behind) =
    omega (arith, length-append (take at s ++ bytes_of x) behind, head, length-drop (at + 4) s) in
    let e : at + 4 + 4 ≡ at + 8 = omega arith in
    rw (
      le-leb (at + 4) (length s) (omega arith),
      le-leb (at + 4 + 4) (length (take at s ++ bytes_of x ++ behind)) whole,
      take_at (take at s ++ bytes_of x) behind (at + 4) head,
      ← drop-drop 4 (at + 4) (take at s ++ bytes_of x ++ behind),
      drop_at (take at s ++ bytes_of x) behind (at + 4) head,
      drop-drop 4 (at + 4) s,
      e,
      append_assoc (take at s) (bytes_of x) (bytes_of y),
    )

-- the eight bytes of a number of 64 bits read as it
pub read_long : (x : ℕ) → x < 2 ^ 64 → long_at (long_bytes x) 0 ≡ x
read_long x h =
    let low : word_at (bytes_of (x % 2 ^ 32)) 0 ≡ x % 2 ^ 32 = read_bytes (x % 2 ^ 32) (omega arith) in
    let high : word_at (bytes_of (x / 2 ^ 32)) 0 ≡ x / 2 ^ 32 = read_bytes (x / 2 ^ 32) (omega arith) in
    omega (arith, low, high)
