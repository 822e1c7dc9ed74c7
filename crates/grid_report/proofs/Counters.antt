-- A report's lines: how long they are, and one after the other in a buffer.
-- Assumes nothing.
use Prim.Native.Nat.{ℕ, zero, suc, ◌+◌, ◌-◌, ◌^◌, ◌≤◌, ◌<◌}
use mathlib.Core.Bool.{Bool, true, false, cond}
use mathlib.Core.List.{List, [], ◌++◌}
use mathlib.Core.Path.{◌≡◌, refl, ap, ◌∙◌}
use native.Mathlib.Omega.{arith}
use borrow.Author.Tests.{eq-eqb, ne_eqb, lt-ltb, le-ltb}
use lib.Dec.{eqb}
use lib.ListN.{length, get_or, drop, replicate, length-append}
use Rattle.word.specs.Bytes.{concatenated}
use Rattle.word.proofs.Concatenated.{parts_append, parts_one}
use Rattle.rules.specs.Bus.{total}
use Rattle.answer.specs.Answers.{Answer, Accepted, Size}
use Rattle.lines.specs.Line.{line, decimal, decimal_in, line_of}
use Rattle.lines.proofs.Numbers.{line_most}
use Rattle.grid_spec.specs.Report.{name_of, line_at, report_of, report_answer, report_length, reported_in}
use Rattle.grid_report.proofs.Texts.{name_most}

module _ (grid : List ℕ) where
  module _ (k : ℕ) where
    pub zero_line : get_or grid k 0 ≡ 0 → line_at grid k ≡ []
    unfolding line_at
    zero_line e = rw (eq-eqb (get_or grid k 0) 0 e)

    pub its_line : (get_or grid k 0 ≡ 0 → ⊥) → line_at grid k ≡ line_of (name_of k) (get_or grid k 0)
    unfolding line_at
    its_line n = rw (ne_eqb (get_or grid k 0) 0 n)

    pub its_length : (get_or grid k 0 ≡ 0 → ⊥) → length (line_at grid k) ≡ length (name_of k) + length (line (decimal (get_or grid k 0)))
    its_length n = ap length (its_line n) ∙ length-append (name_of k) (line (decimal (get_or grid k 0)))

    either_most : (b : Bool) (l : List ℕ) {n : ℕ} → length l ≤ n → length (cond b [] l) ≤ n
    either_most true l h = omega arith
    either_most false l h = h

    most : length (line_at grid k) ≤ length (name_of k) + 21
    unfolding line_at
    most = either_most (eqb (get_or grid k 0) 0) (line_of (name_of k) (get_or grid k 0)) (line_most (name_of k) (get_or grid k 0))

    pub counter_most : k < 135 → length (line_at grid k) ≤ 42
    counter_most h = omega (arith, most, name_most k h)

  -- the lines below k
  abbrev pub lines_to : ℕ → List ℕ
  lines_to = concatenated (line_at grid)

  pub next_length : (k : ℕ) → length (lines_to (k + 1)) ≡ length (lines_to k) + length (line_at grid k)
  next_length k = ap length (parts_one (line_at grid) k) ∙ length-append (lines_to k) (line_at grid k)

  -- a counter's line has room where all have
  pub room : (k : ℕ) → k < 135 → length (lines_to k) + length (line_at grid k) ≤ length (report_of grid)
  unfolding report_of
  room k h =
      let e : 135 ≡ k + 1 + (134 - k) = omega arith in
      omega (
        arith,
        ap (λ (n : ℕ). length (lines_to n)) e,
        simp length-append at (ap length (parts_append (line_at grid) (k + 1) (134 - k))),
        next_length k,
      )

  -- the longest report: every counter has 20 digits
  lines_most : (n : ℕ) → length (lines_to n) ≤ total (λ k. length (name_of k) + 21) n
  unfolding concatenated
  lines_most zero = omega arith
  lines_most (suc n) = omega (arith, lines_most n, most n, length-append (lines_to n) (line_at grid n))

  pub longest : length (report_of grid) ≤ 5076
  unfolding report_of name_of
  longest = lines_most 135

  -- the two answers, each with the buffer at return
  module _ (text : List ℕ) where
    abbrev Reports : Answer → ℕ → List ℕ → Type 0
    Reports a n l =
        (a ≡ report_answer grid (length text)) × (n ≡ report_length grid (length text)) × (l ≡ reported_in grid text)

    pub short : length text < length (report_of grid) → Reports (Size 5 (length (report_of grid))) 0 text
    unfolding report_answer report_length reported_in
    short h = let e = lt-ltb (length text) (length (report_of grid)) h in (rw e, rw e, rw e)

    pub enough : length (report_of grid) ≤ length text
        → Reports Accepted (length (report_of grid)) (report_of grid ++ drop (length (report_of grid)) text)
    unfolding report_answer report_length reported_in
    enough h = let e = le-ltb (length text) (length (report_of grid)) h in (rw e, rw e, rw e)

-- and no bound is lower
pub longest_there : length (report_of (replicate 135 (2 ^ 64 - 1))) ≡ 5076
unfolding report_of concatenated line_at name_of decimal_in
longest_there = refl
