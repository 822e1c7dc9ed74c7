-- Document 02, M-109: "Verifiers hold the public input, the first 2^m' cells, apart from the rest. Let the judge take
-- the two, with m' from 0 to m - 1. [..] The answer equals the old judge's on the two joined. Refusals: SIZE part 2 for
-- a bad m' or either length".
use Rattle.std.specs.Prelude.{ℕ, ◌+◌, ◌/◌, ◌%◌, Bool, cond, ◌&&◌, List, ◌++◌, leb, eqb, length}
use Rattle.answer.specs.Answers.{Answer, Size}
use Rattle.rules.specs.Sizes.{Parts, parts_of, is_power, program_fits, memory_fits}
use Rattle.judge_spec.specs.Judged.{judge_of}

-- what the judge is handed where public words have a buffer of their own, in the order in which a call hands it in
pub record SplitParts : Type 0 where
  pub program : List ℕ
  pub public : List ℕ
  pub rest : List ℕ
  pub pc : ℕ
  pub fp : ℕ
  pub exec : List ℕ
  pub ext : List ℕ

abbrev pub split_parts_of : List ℕ → List ℕ → List ℕ → ℕ → ℕ → List ℕ → List ℕ → SplitParts
split_parts_of program public rest pc fp exec ext =
    record { program = program; public = public; rest = rest; pc = pc; fp = fp; exec = exec; ext = ext }

-- the two joined, public words first
abbrev pub joined : SplitParts → Parts
joined q = parts_of q.program (q.public ++ q.rest) q.pc q.fp q.exec q.ext

-- 2^m' words of 4 bytes, m' from 0 to 28
abbrev pub public_fits : ℕ → Bool
public_fits bytes = eqb (bytes % 4) 0 && is_power (bytes / 4) 0 28

-- the two lengths of part 2: 2^m' words, some that are left, and 2^m words in all, m from 8 to 29
abbrev pub split_fits : ℕ → ℕ → Bool
split_fits public rest = public_fits public && leb 1 rest && memory_fits (public + rest)

-- SIZE of part 1, then of part 2; what comes after them is the judge's own, on the two joined
unfoldable pub judge_split_of : SplitParts → Answer
judge_split_of q =
    cond (program_fits (length q.program))
    (cond (split_fits (length q.public) (length q.rest)) (judge_of (joined q)) (Size 2 0))
    (Size 1 0)
