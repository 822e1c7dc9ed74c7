-- Draft 0.6.0, 2.6.3, and document 02, M-108: "In an accepted table the cell at x is then below t, for every t from 1
-- to p [..] The finder writes a row and bound t, 4 bytes each, for every find, in row order, and gives their number, 0
-- on refusal; bytes after the last find keep what they held. Refusals: the judge's own first; then 19 LIST if the
-- buffer is too short, place = finds, buffer unchanged."
-- `ranges_answer`, `ranges_found` and `finds_left` (range_spec) are what `range::find_ranges` promises.
use Rattle.std.specs.Prelude.{ℕ, ◌+◌, ◌-◌, ◌*◌, ◌≤◌, ◌<◌, ◌≡◌, List, ◌⊎◌, length, get_or}
use Rattle.word.specs.Word.{p, ◌+ₚ◌}
use Rattle.word.specs.Bytes.{word_at}
use Rattle.answer.specs.Answers.{Accepted, ListShort}
use Rattle.rules.specs.Sizes.{Parts, given_of, tables_of}
use Rattle.judge_spec.specs.Judged.{judge_of}
use Rattle.range_spec.specs.RangeCheck.{RangeCheck}
use Rattle.range_spec.specs.Finder.{ranges_answer, ranges_found, finds_left}

-- the cell that a range check from row r on is of: x counts from the row's frame
abbrev pub cell_checked : Parts → ℕ → ℕ → ℕ
cell_checked q r x = ((tables_of q).exec r).fp +ₚ x

-- it is one of the memory's, and holds a word below the bound, and below M; the bound is at most p, and below 2M. Row r
-- has the cell's number and word as addr A and value A
pub record Bounded (q : Parts) (r x bound : ℕ) : Type 0 where
  pub exists : cell_checked q r x < (given_of q).size
  pub below : (given_of q).cell (cell_checked q r x) < bound
  pub small : (given_of q).cell (cell_checked q r x) < (given_of q).size
  pub most : (bound ≤ p) × (bound < 2 * (given_of q).size)
  pub address : ((tables_of q).exec r).addrA ≡ cell_checked q r x
  pub value : ((tables_of q).exec r).valueA ≡ (given_of q).cell (cell_checked q r x)

-- a row and a bound are those of a range check, for some x and j
abbrev pub IsRangeCheck : Parts → ℕ → ℕ → Type 0
IsRangeCheck q r bound = (x : ℕ) × (j : ℕ) × RangeCheck (given_of q) (tables_of q) r x j bound

-- row and bound of find k, as they are read from the buffer
abbrev pub row_in : List ℕ → ℕ → ℕ
row_in finds k = word_at finds (8 * k)

abbrev pub bound_in : List ℕ → ℕ → ℕ
bound_in finds k = word_at finds (8 * k + 4)

-- the buffer's first n finds: each is a range check, they stand in row order, and every range check is one of them
pub record Lists (q : Parts) (n : ℕ) (finds : List ℕ) : Type 0 where
  pub nothing_else : (k : ℕ) → k < n → IsRangeCheck q (row_in finds k) (bound_in finds k)
  pub in_order : (k l : ℕ) → k < l → l < n → row_in finds k < row_in finds l
  pub every : (r bound : ℕ) → IsRangeCheck q r bound → (k : ℕ) × (k < n) × (row_in finds k ≡ r) × (bound_in finds k ≡ bound)

pub record Ranges : Type 0 where
  -- in an accepted table the cell at x is below t, and nothing more is assumed of t
  pub bounds : (q : Parts) → judge_of q ≡ Accepted → (r x j bound : ℕ) → RangeCheck (given_of q) (tables_of q) r x j bound → Bounded q r x bound
  -- the three rows have one frame, so x and j mean the same cells in each
  pub one_frame : (q : Parts) → judge_of q ≡ Accepted → (r x j bound : ℕ) → RangeCheck (given_of q) (tables_of q) r x j bound
      → (((tables_of q).exec (r + 1)).fp ≡ ((tables_of q).exec r).fp) × (((tables_of q).exec (r + 2)).fp ≡ ((tables_of q).exec r).fp)
  -- every range check is found, and nothing else
  pub lists : (q : Parts) (finds : List ℕ) → ranges_answer q (length finds) ≡ Accepted
      → Lists q (ranges_found q (length finds)) (finds_left q finds)
  -- bytes after the last find keep what they held, and there are as many bytes as there were
  pub later_kept : (q : Parts) (finds : List ℕ) (at : ℕ) → 8 * ranges_found q (length finds) ≤ at → get_or (finds_left q finds) at 0 ≡ get_or finds at 0
  pub length_kept : (q : Parts) (finds : List ℕ) → length (finds_left q finds) ≡ length finds
  -- what the judge refuses is refused so
  pub judge_first : (q : Parts) (room : ℕ) → (judge_of q ≡ Accepted → ⊥) → ranges_answer q room ≡ judge_of q
  -- and where it accepts, nothing but LIST is left to refuse with
  pub accepted_or_list : (q : Parts) (room : ℕ) → judge_of q ≡ Accepted → (ranges_answer q room ≡ Accepted) ⊎ ((n : ℕ) × (ranges_answer q room ≡ ListShort n))
  -- LIST: the buffer was too short, 8 bytes for each of its place are enough, and then there are so many finds
  pub list_place : (q : Parts) (room n : ℕ) → ranges_answer q room ≡ ListShort n
      → (room < 8 * n) × (ranges_answer q (8 * n) ≡ Accepted) × (ranges_found q (8 * n) ≡ n)
  -- a buffer of 8 bytes for each row that two more follow is always enough
  pub always_enough : (q : Parts) → judge_of q ≡ Accepted → ranges_answer q (8 * ((tables_of q).height - 2)) ≡ Accepted
  -- a refusal gives no number and changes no byte
  pub refused : (q : Parts) (finds : List ℕ) → (ranges_answer q (length finds) ≡ Accepted → ⊥)
      → (ranges_found q (length finds) ≡ 0) × (finds_left q finds ≡ finds)
