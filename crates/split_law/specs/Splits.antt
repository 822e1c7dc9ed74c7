-- Document 02, M-109: "with m' from 0 to m - 1 [..] The answer equals the old judge's on the two joined. Refusals: SIZE
-- part 2 for a bad m' or either length; WORD counts words as if joined."
-- `judge_split_of` (split_spec) is what `split::judge_split` promises, `judge_of` (judge_spec) what `judge::judge`
-- does.
use Rattle.std.specs.Prelude.{ℕ, ◌-◌, ◌*◌, ◌^◌, ◌≤◌, ◌<◌, ◌≡◌, ◌↔◌, true, false, length, take, drop}
use Rattle.answer.specs.Answers.{Answer, Accepted, Size}
use Rattle.rules.specs.Sizes.{Parts, program_fits, memory_fits}
use Rattle.judge_spec.specs.Judged.{judge_of}
use Rattle.judge_spec.specs.Refusal.{Says}
use Rattle.split_spec.specs.Split.{SplitParts, split_parts_of, joined, judge_split_of}

-- bytes of two buffers that hold a memory of 2^m cells: its first 2^m' cells, and the rest
pub record Cut (m m' public rest : ℕ) : Type 0 where
  pub least : 8 ≤ m
  pub most : m ≤ 29
  pub below : m' < m
  pub first : public ≡ 4 * 2 ^ m'
  pub others : rest ≡ 4 * (2 ^ m - 2 ^ m')

abbrev pub HasCut : SplitParts → Type 0
HasCut q = (m : ℕ) × (m' : ℕ) × Cut m m' (length q.public) (length q.rest)

-- the same parts with the memory's first 2^m' cells in a buffer of their own
abbrev pub cut_at : ℕ → Parts → SplitParts
cut_at m' q = split_parts_of q.program (take (4 * 2 ^ m') q.memory) (drop (4 * 2 ^ m') q.memory) q.pc q.fp q.exec q.ext

pub record Splits : Type 0 where
  -- for valid lengths the answer is the old judge's on the two joined, whatever else is handed in
  pub as_joined : (q : SplitParts) → HasCut q → judge_split_of q ≡ judge_of (joined q)
  -- all other lengths are refused, after part 1
  pub others_refused : (q : SplitParts) → (HasCut q → ⊥) → program_fits (length q.program) ≡ true → judge_split_of q ≡ Size 2 0
  pub program_first : (q : SplitParts) → program_fits (length q.program) ≡ false → judge_split_of q ≡ Size 1 0
  -- and only they are
  pub valid_passes : (q : SplitParts) → HasCut q → judge_split_of q ≡ Size 2 0 → ⊥
  -- so a memory of 2^m cells gets one answer, whole or cut at any m' from 0 to m - 1
  pub any_cut : (q : Parts) (m m' : ℕ) → 8 ≤ m → m ≤ 29 → m' < m → length q.memory ≡ 4 * 2 ^ m → judge_split_of (cut_at m' q) ≡ judge_of q
  -- and every answer says of the two joined what the old judge's says: WORD counts words as if joined
  pub says_joined : (q : SplitParts) (a : Answer) → HasCut q → (judge_split_of q ≡ a) ↔ Says (joined q) a
  -- what is accepted in two buffers is accepted in one
  pub accepted_joined : (q : SplitParts) → judge_split_of q ≡ Accepted → HasCut q × (judge_of (joined q) ≡ Accepted)
  -- 3 and 253 words join to a memory of 2^8, and are refused; so are no public words, and m' = m, where nothing is left
  pub three_words : (q : SplitParts) → program_fits (length q.program) ≡ true → length q.public ≡ 4 * 3 → length q.rest ≡ 4 * 253
      → (memory_fits (length (joined q).memory) ≡ true) × (judge_split_of q ≡ Size 2 0)
  pub no_public_words : (q : SplitParts) → program_fits (length q.program) ≡ true → length q.public ≡ 0 → judge_split_of q ≡ Size 2 0
  pub nothing_left : (q : SplitParts) → program_fits (length q.program) ≡ true → length q.rest ≡ 0 → judge_split_of q ≡ Size 2 0
