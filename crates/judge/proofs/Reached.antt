-- The answer of a stage where it refuses, and of the stages after it where it doesn't.
-- Assumes nothing.
use borrow.Author.Tests.{lt-ltb, le-ltb}
use mathlib.Core.Path.{◌≡◌, refl, ap, ◌∙◌}
use native.Mathlib.Omega.{arith}
use Rattle.std.proofs.Common.{Some, None}
use mathlib.Core.Bool.{Bool, true, false, cond}
use mathlib.Core.List.{List}
use Prim.Native.Nat.{ℕ, ◌≤◌, ◌<◌}
use Rattle.answer.specs.Answers.{Answer}
use Rattle.judge_spec.specs.Judged.{refused}
use Rattle.judge_walks.specs.declared.Failing.{Failing}
use Rattle.judge_walks.specs.Walks.{Tested, first_failing_row}
use Rattle.judge_walks.proofs.Rows.{row_found, row_below, at_end}

-- m is what the code found, in the place of what is to be found
pub later : (a : Answer) {m found n : ℕ} {r then : Answer} → m ≡ found → n ≤ m → r ≡ then → r ≡ refused found n a then
later a e past s = rw (← e, le-ltb _ _ past) s

pub here : (f : ℕ → Answer) (then : Answer) {m found n : ℕ} {r : Answer} → m ≡ found → m < n → r ≡ f m → r ≡ refused found n (f found) then
here f then e low s = rw (← e, lt-ltb _ _ low) s

-- the same of a row and its rule
module _ (failing : ℕ → ℕ) {n : ℕ} {bytes : List ℕ} {words : Bool} where
  past : Tested failing n bytes None words → n ≤ first_failing_row failing n
  past tested = let e = at_end tested in omega arith

  pub row_here : (f : ℕ → ℕ → Answer) (then : Answer) {row : Failing} → Tested failing n bytes (Some row) words
      → f row.row row.rule ≡ refused (first_failing_row failing n) n (f (first_failing_row failing n) (failing (first_failing_row failing n))) then
  row_here f then {row} tested = ap (λ (w : Failing). f w.row w.rule) (row_found tested) ∙ rw (lt-ltb _ _ (row_below tested)) refl

  pub row_later : (a : Answer) {r then : Answer} → Tested failing n bytes None words → r ≡ then → r ≡ refused (first_failing_row failing n) n a then
  row_later a tested s = rw (le-ltb _ _ (past tested)) s

-- a test by its own bool
pub met : (a : Answer) {b test : Bool} {r then : Answer} → b ≡ test → b ≡ true → r ≡ then → r ≡ cond test then a
met a e t s = rw (← e, t) s

pub unmet : (then : Answer) {b test : Bool} {r a : Answer} → b ≡ test → b ≡ false → r ≡ a → r ≡ cond test then a
unmet then e t s = rw (← e, t) s
