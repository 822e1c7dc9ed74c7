-- One counter more, read and written.
-- Assumes nothing.
use mathlib.Core.Path.{◌≡◌, ◌∙◌}
use mathlib.Core.List.{List, [], ◌∷◌, ◌++◌}
use Prim.Native.Nat.{ℕ, ◌+◌, ◌*◌, ◌≤◌, ◌<◌}
use native.Mathlib.Numerals.{add-one}
use native.Mathlib.Omega.{arith}
use lib.ListN.{length, get_or, take, drop, set, length-append, length-drop}
use lib.Seq.{take-suc-set, take_at, length-take-le}
use Rattle.word.specs.Bytes.{concatenated}
use Rattle.word.proofs.Concatenated.{parts_one}
use Rattle.long.specs.Long.{long_at, long_bytes}

pub read_next : (bytes grid : List ℕ) (k : ℕ) → k < length grid → take k grid ≡ concatenated (λ j. long_at bytes (8 * j) ∷ []) k
    → take (k + 1) (set grid k (long_at bytes (8 * k))) ≡ concatenated (λ j. long_at bytes (8 * j) ∷ []) (k + 1)
read_next bytes grid k h e =
    rw (parts_one (λ j. long_at bytes (8 * j) ∷ []) k, add-one k, take-suc-set grid k (long_at bytes (8 * k)) h, e)

module _ (bytes : List ℕ) (at x : ℕ) (room : at + 8 ≤ length bytes) where
  head : length (take at bytes ++ long_bytes x) ≡ at + 8
  head = length-append (take at bytes) (long_bytes x) ∙ omega (arith, length-take-le at bytes (omega arith))

  pub put_length : length (take at bytes ++ long_bytes x ++ drop (at + 8) bytes) ≡ length bytes
  put_length =
      length-append (take at bytes ++ long_bytes x) (drop (at + 8) bytes) ∙ omega (arith, head, length-drop (at + 8) bytes)

  pub put_head : take (at + 8) (take at bytes ++ long_bytes x ++ drop (at + 8) bytes) ≡ take at bytes ++ long_bytes x
  put_head = take_at (take at bytes ++ long_bytes x) (drop (at + 8) bytes) (at + 8) head

pub write_next : (bytes grid : List ℕ) (k : ℕ) → 8 * k + 8 ≤ length bytes
    → take (8 * k) bytes ≡ concatenated (λ j. long_bytes (get_or grid j 0)) k
    → take (8 * (k + 1)) (take (8 * k) bytes ++ long_bytes (get_or grid k 0) ++ drop (8 * k + 8) bytes)
    ≡ concatenated (λ j. long_bytes (get_or grid j 0)) (k + 1)
write_next bytes grid k room e =
    let here : 8 * (k + 1) ≡ 8 * k + 8 = omega arith in
    rw (here, parts_one (λ j. long_bytes (get_or grid j 0)) k, put_head bytes (8 * k) (get_or grid k 0) room, e)
