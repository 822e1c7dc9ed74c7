-- Cells of two buffers joined, by where they lie; and the words of bytes that are cells'.
-- Assumes nothing.
use borrow.Author.Tests.{lt-ltb, le-ltb, le-leb, lt-leb}
use mathlib.Core.Path.{◌≡◌, sym, ap, ◌∙◌}
use mathlib.Core.List.{List, [], ◌++◌}
use Prim.Native.Nat.{ℕ, ◌+◌, ◌-◌, ◌*◌, ◌/◌, ◌%◌, ◌≤◌, ◌<◌}
use native.Mathlib.Omega.{arith}
use lib.ListN.{length, get_or, take, drop, length-append, length-drop}
use lib.Seq.{length-take-le, take-append-le, drop-append-le, drop-append-add, get_or-take}
use Rattle.word.specs.Bytes.{word_at}
use Rattle.word.proofs.Part.{word_drop}
use Rattle.word.proofs.Tests.{by_order}
use Rattle.judge_lookups.specs.Memory.{cell_bytes, held_bytes}

module _ (memory : List ℕ) (addr n : ℕ) where
  -- cells that are all there, and cells that are not
  pub bytes_there : addr + n ≤ length memory / 4 → cell_bytes memory addr n ≡ take (4 * n) (drop (4 * addr) memory)
  unfolding cell_bytes
  bytes_there h = rw (le-leb (addr + n) (length memory / 4) h)

  pub bytes_gone : length memory / 4 < addr + n → cell_bytes memory addr n ≡ []
  unfolding cell_bytes
  bytes_gone h = rw (lt-leb (addr + n) (length memory / 4) h)

  there_length : addr + n ≤ length memory / 4 → length (cell_bytes memory addr n) ≡ 4 * n
  there_length h = rw (bytes_there h) (length-take-le (4 * n) (drop (4 * addr) memory) (omega (arith, length-drop (4 * addr) memory)))

module _ (memory : List ℕ) (addr n : ℕ) {s : List ℕ} (e : s ≡ cell_bytes memory addr n) where
  -- bytes, and so all of the cells are there
  pub some_there : 0 < length s → addr + n ≤ length memory / 4
  some_there h =
      by_order (length memory / 4) (addr + n)
      (λ gone. absurd (omega (arith, ap length (e ∙ bytes_gone memory addr n gone))))
      (λ there. there)

  pub lent_there : addr + n ≤ length memory / 4 → length s ≡ 4 * n
  lent_there h = ap length e ∙ there_length memory addr n h

  -- a word of theirs is a word of the memory
  pub word_lent : (at j : ℕ) → at ≡ 4 * j → addr + n ≤ length memory / 4 → j < n → word_at s at ≡ word_at memory (4 * (addr + j))
  word_lent at j k h b =
      let four : 4 * (addr + j) ≡ 4 * addr + 4 * j = omega arith in
      rw (e, bytes_there memory addr n h, k, four, word_drop memory (4 * addr) (4 * j), byte 1 (omega arith), byte 2 (omega arith), byte 3 (omega arith), get_or-take (4 * n) (drop (4 * addr) memory) (4 * j) 0 (omega arith))
    where
      byte : (i : ℕ) → i < 4 → get_or (take (4 * n) (drop (4 * addr) memory)) (4 * j + i) 0 ≡ get_or (drop (4 * addr) memory) (4 * j + i) 0
      byte i l = get_or-take (4 * n) (drop (4 * addr) memory) (4 * j + i) 0 (omega arith)

module _ (public rest : List ℕ) (addr n : ℕ) where
  -- cells of the first buffer
  in_public : addr + n ≤ length public / 4 → cell_bytes public addr n ≡ cell_bytes (public ++ rest) addr n
  in_public h =
      let more : addr + n ≤ length (public ++ rest) / 4 = omega (arith, length-append public rest) in
      rw (
        bytes_there public addr n h,
        bytes_there (public ++ rest) addr n more,
        drop-append-le (4 * addr) public rest (omega arith),
        take-append-le (4 * n) (drop (4 * addr) public) rest (omega (arith, length-drop (4 * addr) public)),
      )

  -- cells of the second
  in_rest : length public % 4 ≡ 0 → length public / 4 ≤ addr → cell_bytes rest (addr - length public / 4) n ≡ cell_bytes (public ++ rest) addr n
  in_rest seam past =
      by_order (length rest / 4) (addr - length public / 4 + n)
      (λ gone.
      bytes_gone rest (addr - length public / 4) n gone
      ∙ sym (bytes_gone (public ++ rest) addr n (omega (arith, length-append public rest))))
      (λ there.
      let at : 4 * addr ≡ length public + 4 * (addr - length public / 4) = omega arith in
      rw (
        bytes_there rest (addr - length public / 4) n there,
        bytes_there (public ++ rest) addr n (omega (arith, length-append public rest)),
        at,
        drop-append-add public rest (4 * (addr - length public / 4)),
      ))

  pub held_first : addr < length public / 4 → held_bytes public rest addr n ≡ cell_bytes public addr n
  unfolding held_bytes
  held_first h = rw (lt-ltb addr (length public / 4) h)

  pub held_second : length public / 4 ≤ addr → held_bytes public rest addr n ≡ cell_bytes rest (addr - length public / 4) n
  unfolding held_bytes
  held_second h = rw (le-ltb addr (length public / 4) h)

  -- what is held in one buffer is what the two joined have
  pub held_joined : length public % 4 ≡ 0 → 0 < length (held_bytes public rest addr n) → held_bytes public rest addr n ≡ cell_bytes (public ++ rest) addr n
  held_joined seam some =
      by_order addr (length public / 4)
      (λ h. held_first h ∙ in_public (some_there public addr n (held_first h) some))
      (λ h. held_second h ∙ in_rest seam h)

-- one cell is held in one buffer
pub one_held : (public rest : List ℕ) (addr : ℕ) → length public % 4 ≡ 0 → held_bytes public rest addr 1 ≡ cell_bytes (public ++ rest) addr 1
one_held public rest addr seam =
    by_order addr (length public / 4)
    (λ h. held_first public rest addr 1 h ∙ in_public public rest addr 1 (omega arith))
    (λ h. held_second public rest addr 1 h ∙ in_rest public rest addr 1 seam h)
