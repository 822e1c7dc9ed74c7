-- A cell as a lookup gives it: a word where it is there, and else nothing.
-- Assumes nothing.
use borrow.Author.Tests.{ltb-true, ltb-false, lt-ltb, le-ltb, le-leb, lt-leb}
use mathlib.Core.Path.{◌≡◌, refl, sym, ap, ◌∙◌}
use mathlib.Core.Bool.{Bool, true, false, cond}
use mathlib.Core.List.{List}
use Prim.Native.Nat.{ℕ, ◌+◌, ◌/◌, ◌≤◌, ◌<◌}
use native.Mathlib.Nat.{add-zero}
use native.Mathlib.Omega.{arith}
use lib.Dec.{ltb, eqb}
use lib.ListN.{length, get_or}
use Rattle.word.specs.Bytes.{word_at}
use Rattle.word.proofs.Tests.{by_order}
use Rattle.rows.specs.Rows.{five_words}
use Rattle.rules.specs.declared.Found.{Found}
use Rattle.rules.specs.Sizes.{word_of}
use Rattle.rules.specs.Lookups.{finding, differing, found_by}
use Rattle.judge_lookups.specs.Memory.{cell_bytes, cell_of}
use Rattle.std.proofs.Common.{Option, Some, None}
use Rattle.judge_lookups.proofs.Seam.{bytes_gone, some_there, lent_there, word_lent}

abbrev there : Option ℕ → Bool
there (Some w) = true
there None = false

abbrev held : Option ℕ → ℕ
held (Some w) = w
held None = 0

module _ (memory : List ℕ) (k : ℕ) where
  -- what the test of a cell tells
  pub cell_there : {b : Bool} → b ≡ ltb k (length memory / 4) → b ≡ true → k < length memory / 4
  cell_there {b} e t = ltb-true k (length memory / 4) (sym e ∙ t)

  pub cell_gone : {b : Bool} → b ≡ ltb k (length memory / 4) → b ≡ false → length memory / 4 ≤ k
  cell_gone {b} e t = ltb-false k (length memory / 4) (sym e ∙ t)

  -- a cell's bytes tell whether it is there, and its word
  module _ {s : List ℕ} (e : s ≡ cell_bytes memory k 1) where
    pub cell_long : k < length memory / 4 → length s ≡ 4
    cell_long h = lent_there memory k 1 e (omega arith)

    pub cell_full : 4 ≤ length s → k < length memory / 4
    cell_full h = omega (arith, some_there memory k 1 e (omega arith))

    pub cell_short : length s < 4 → length memory / 4 ≤ k
    cell_short h = by_order k (length memory / 4) (λ there. absurd (omega (arith, cell_long there))) (λ gone. gone)

    pub cell_word : k < length memory / 4 → word_at s 0 ≡ word_of memory k
    cell_word h = rw (add-zero k) at (word_lent memory k 1 e 0 0 refl (omega arith) (omega arith))

    pub some_bytes : ltb 0 (length s) ≡ ltb k (length memory / 4)
    some_bytes =
        by_order k (length memory / 4)
        (λ there. rw (lt-ltb k (length memory / 4) there) (lt-ltb 0 (length s) (omega (arith, cell_long there))))
        (λ gone. rw (le-ltb k (length memory / 4) gone, e, bytes_gone memory k 1 (omega arith)))

  there_is : there (cell_of memory k) ≡ ltb k (length memory / 4)
  there_is = by (ltb k (length memory / 4))
    where
      by : (b : Bool) → there (cond b (Some (word_of memory k)) None) ≡ b
      by true = refl
      by false = refl

  pub word_there : {w : ℕ} → Some w ≡ cell_of memory k → k < length memory / 4
  word_there e = ltb-true k (length memory / 4) (sym there_is ∙ sym (ap there e))

  pub word_held : {w : ℕ} → Some w ≡ cell_of memory k → w ≡ word_of memory k
  word_held e = rw (lt-ltb k (length memory / 4) (word_there e)) at (ap held e)

  pub not_there : None ≡ cell_of memory k → length memory / 4 ≤ k
  not_there e = ltb-false k (length memory / 4) (sym there_is ∙ sym (ap there e))

-- what is found where every cell is there, and where the last is not
module _ (memory : List ℕ) (addr : ℕ) (column : List ℕ) where
  pub found_inside : addr + length column ≤ length memory / 4
      → differing (word_of memory) addr column ≡ found_by (length memory / 4) (word_of memory) addr column
  unfolding found_by
  found_inside h = rw (le-leb (addr + length column) (length memory / 4) h)

  pub found_outside : length memory / 4 < addr + length column → finding 0 0 ≡ found_by (length memory / 4) (word_of memory) addr column
  unfolding found_by
  found_outside h = rw (lt-leb (addr + length column) (length memory / 4) h)

-- five cells, one after the other
pub five_differing : (cell : ℕ → ℕ) (addr : ℕ) (a : List ℕ) {first second third fourth fifth : Found}
    → fifth ≡ cond (eqb (get_or a 4 0) (cell (addr + 4))) (finding 0 0) (finding (cell (addr + 4)) (get_or a 4 0))
    → fourth ≡ cond (eqb (get_or a 3 0) (cell (addr + 3))) fifth (finding (cell (addr + 3)) (get_or a 3 0))
    → third ≡ cond (eqb (get_or a 2 0) (cell (addr + 2))) fourth (finding (cell (addr + 2)) (get_or a 2 0))
    → second ≡ cond (eqb (get_or a 1 0) (cell (addr + 1))) third (finding (cell (addr + 1)) (get_or a 1 0))
    → first ≡ cond (eqb (get_or a 0 0) (cell addr)) second (finding (cell addr) (get_or a 0 0))
    → first ≡ differing cell addr (five_words a)
five_differing cell addr a e5 e4 e3 e2 e1 =
    let two : addr + 1 + 1 ≡ addr + 2 = omega arith in
    let three : addr + 2 + 1 ≡ addr + 3 = omega arith in
    let four : addr + 3 + 1 ≡ addr + 4 = omega arith in
    rw (two, three, four, ← e5, ← e4, ← e3, ← e2) e1
