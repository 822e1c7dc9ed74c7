-- What is put for a row, and that there is room for it where there is for all.
-- Assumes nothing.
use mathlib.Core.Path.{◌≡◌, ap, ◌∙◌}
use mathlib.Core.Bool.{true, false}
use Prim.Native.Nat.{ℕ, ◌+◌, ◌-◌, ◌*◌, ◌≤◌, ◌<◌}
use native.Mathlib.Omega.{arith}
use lib.ListN.{length, length-append}
use Rattle.word.specs.Bytes.{with_word}
use Rattle.word.proofs.Tests.{by_order}
use Rattle.word.proofs.Concatenated.{parts_append, parts_one}
use Rattle.rows.specs.Rows.{bytes_of_words}
use Rattle.lines.specs.Line.{over}
use Rattle.long.proofs.EightBytes.{two_words}
use Rattle.lines.specs.Putting.{Room, Put}
use Rattle.lines.specs.declared.Out.{Out}
use Rattle.lines.proofs.Placing.{over_length}
use Rattle.lines.proofs.Putting.{put_none}
use Rattle.rules.specs.Given.{Given, Tables}
use Rattle.range_spec.specs.Finds.{found_at, bound_at, find_bytes, finds_below, first_rows, all_finds, finds_number}
use Rattle.range_finds.proofs.All.{finds_length}

module _ (g : Given) (t : Tables) (r : ℕ) where
  -- what is put for a row that is no find, and for one that is
  pub nothing_put : (a : Out) → found_at g t r ≡ false → Put a (find_bytes g t r) a
  nothing_put a not = rw not (put_none a)

  pub find_put : {a b : Out} → found_at g t r ≡ true → Room a (find_bytes g t r) → b.at ≡ a.at + 8
      → b.bytes.now ≡ with_word (with_word a.bytes.now a.at r) (a.at + 4) (bound_at g t r)
      → b.bytes.ghost_name ≡ a.bytes.ghost_name
      → Put a (find_bytes g t r) b
  unfolding bytes_of_words
  find_put {a} {b} is room place put same =
      let long : length (find_bytes g t r) ≡ 8 = rw is in
      let stand : b.bytes.now ≡ over a.bytes.now a.at (find_bytes g t r) = put ∙ rw is (two_words a.bytes.now a.at r (bound_at g t r) (omega arith)) in
      record {
        place = omega arith;
        bytes = stand;
        long = ap length stand ∙ over_length a.bytes.now a.at (find_bytes g t r) room;
        same = same;
      }

  -- there is room for row r's bytes where there is for all
  pub room : r < first_rows t → length (finds_below g t r) + length (find_bytes g t r) ≤ length (all_finds g t)
  unfolding all_finds
  room h =
      let e : first_rows t ≡ r + 1 + (first_rows t - (r + 1)) = omega arith in
      omega (
        arith,
        ap (λ (n : ℕ). length (finds_below g t n)) e,
        simp length-append at (ap length (parts_append (find_bytes g t) (r + 1) (first_rows t - (r + 1)))),
        ap length (parts_one (find_bytes g t) r),
        length-append (finds_below g t r) (find_bytes g t r),
      )

  -- where not all of them stand yet, a row is left
  pub before_the_end : r ≤ first_rows t → length (finds_below g t r) < 8 * finds_number g t → r < first_rows t
  unfolding all_finds
  before_the_end h less =
      by_order r (first_rows t) (λ l. l)
      (λ l. let e : r ≡ first_rows t = omega arith in absurd (omega (arith, finds_length g t, ap (λ (n : ℕ). length (finds_below g t n)) e)))
