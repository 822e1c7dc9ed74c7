-- Later versions draw each value of a cell from as many numbers as any other; version 1 does not.
-- Assumes nothing.
use mathlib.Core.Path.{◌≡◌, ◌∙◌}
use mathlib.Core.Bool.{false, true, cond, ◌&&◌}
use Prim.Native.Nat.{ℕ, ◌*◌, ◌%◌, ◌≤◌, ◌<◌}
use native.Mathlib.Omega.{arith}
use borrow.Author.Tests.{lt-ltb, le-ltb}
use lib.Dec.{ltb, eqb}
use Rattle.word.specs.Word.{p, IsWord}
use Rattle.word.proofs.Tests.{by_order}
use Rattle.maker_draws.specs.Drawn.{kept}
use Rattle.maker_draws.specs.Even.{Even, kept_numbers, numbers_for}
use Rattle.maker_draws.proofs.Counting.{count_all, count_remainder, count_bounded}

-- 2^32 is 2·p and 33,554,430 more
module _ (version : ℕ) (later : eqb version 1 ≡ false) where
  below : (x : ℕ) → x < 2 * p → kept version x ≡ true
  below x h = rw (later, lt-ltb x (2 * p) h)

  above : (x : ℕ) → 2 * p ≤ x → kept version x ≡ false
  above x h = rw (later, le-ltb x (2 * p) h)

  kept_numbers_lem : kept_numbers version ≡ 2 * p
  kept_numbers_lem = count_bounded (kept version) (λ x. true) (2 * p) below above 33554430 ∙ count_all (2 * p)

  two_each : (r : ℕ) → IsWord r → numbers_for version r ≡ 2
  two_each r h =
      count_bounded (λ x. kept version x && eqb (x % p) r) (λ x. eqb (x % p) r) (2 * p)
      (λ x b. rw (below x b)) (λ x b. rw (above x b)) 33554430
      ∙ count_remainder r h (2 * p)
      ∙ omega arith

-- with all of them the first 33,554,430 values come once more
three_or_two : (r : ℕ) → IsWord r → numbers_for 1 r ≡ cond (ltb r 33554430) 3 2
three_or_two r h =
    count_remainder r h 4294967296
    ∙ by_order r 33554430 (λ b. rw (lt-ltb r 33554430 b) (omega arith)) (λ b. rw (le-ltb r 33554430 b) (omega arith))

pub even : Even
even = record { first_uneven = three_or_two; later_kept = kept_numbers_lem; later_even = two_each }
