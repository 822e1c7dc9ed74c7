-- Document 02, M-100: a grid of 135 counters, and what a table does to it: the answer, and the grid beside it.
use Rattle.std.specs.Prelude.{ℕ, ◌+◌, ◌-◌, ◌^◌, cond, List, [], ◌∷◌, leb, get_or, replicate}
use Rattle.word.specs.Bytes.{concatenated}
use Rattle.answer.specs.Verdicts.{accepted}
use Rattle.answer.specs.Answers.{Answer, Accepted, Grid}
use Rattle.rules.specs.Given.{Given, Tables}
use Rattle.rules.specs.Sizes.{Parts, given_of, tables_of}
use Rattle.judge_spec.specs.Judged.{judge_of}
use Rattle.grid_spec.specs.Forms.{rows_of}

-- all zero
abbrev pub fresh : List ℕ
fresh = replicate 135 0

-- the counters' total, a number of any size
abbrev pub sum_of : List ℕ → ℕ
sum_of [] = 0
sum_of (x ∷ xs) = x + sum_of xs

abbrev pub limit : ℕ
limit = 2 ^ 63 - 1

-- to each counter as many more as the table has rows of its form, halting rows too
unfoldable pub with_rows : List ℕ → Given → Tables → List ℕ
with_rows grid g t = concatenated (λ k. (get_or grid k 0 + rows_of g t k t.height) ∷ []) 135

-- the answer is the judge's; 14 GRID, tested last, where the total would pass 2^63 - 1
unfoldable pub count_answer : List ℕ → Parts → Answer
count_answer grid q =
    cond (accepted (judge_of q)) (cond (leb (sum_of grid + (tables_of q).height) limit) Accepted Grid) (judge_of q)

-- the grid is counted on ACCEPTED, and as it came on every refusal
unfoldable pub count_grid : List ℕ → Parts → List ℕ
count_grid grid q = cond (accepted (count_answer grid q)) (with_rows grid (given_of q) (tables_of q)) grid
