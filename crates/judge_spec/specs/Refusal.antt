-- Document 01, "Verdicts" 0 to 7, and document 02, M-104: what each answer of the judge says of the parts. Tests run
-- in number order, so each says that those before it passed.
-- Declared in src/: Refusal (answer).
use Rattle.std.specs.Prelude.{◌≡◌, ◌⊎◌, Bool, true, false, List, [], ◌∷◌, ◌++◌, ℕ, ◌+◌, ◌/◌, ◌≤◌, ◌<◌, length, get_or, T}
use Rattle.word.specs.Word.{p, IsWord}
use Rattle.form.specs.Form.{well_formed}
use Rattle.std.specs.Prelude.{Ok, Err}
use Rattle.answer.specs.declared.Refusal.TheVariants as refusal
use Rattle.answer.specs.Answers.{Answer, Accepted, Size, Word, Instruction, Start, Exec as ExecRefused, Extension, Bus, Label, Stuck, Room, Open, Buffer, Grid, Edition, Listing, Short, Host, ListShort}
use Rattle.rules.specs.Given.{Given, Tables, Rule, rule}
use Rattle.rules.specs.Lookups.{Lookup, exec_lookups, ext_lookups}
use Rattle.rules.specs.Bus.{Tuple, pushes, pulled, pulls, pushed_to, pulled_to, instruction_of}
use Rattle.rules.specs.Sizes.{Parts, program_fits, memory_fits, exec_fits, ext_fits, word_of, given_of, tables_of}
use Rattle.rules.specs.Satisfies.{All, Words, Satisfies}
use Rattle.judge_spec.specs.Judged.{exec_rules_at, ext_rules_at, pushed_at}

-- the rule of number n is in the list and fails, and those before it hold
pub record FirstFailing (rules : List Rule) (n : ℕ) : Type 0 where
  pub before : List Rule
  pub after : List Rule
  pub split : rules ≡ before ++ (rule n false ∷ after)
  pub hold : All before

-- nothing is said of a lookup
pub record Silent (expected found : ℕ) : Type 0 where
  pub expected_is : expected ≡ 0
  pub found_is : found ≡ 0

-- what stood there
module _ (g : Given) where
  -- every cell is below M, and the one at an index is the first that differs: its word, and the column's
  pub record Differs (addr : ℕ) (column : List ℕ) (expected found : ℕ) : Type 0 where
    pub index : ℕ
    pub inside : index < length column
    pub in_range : addr + length column ≤ g.size
    pub before : (j : ℕ) → j < index → get_or column j 0 ≡ g.cell (addr + j)
    pub expected_is : expected ≡ g.cell (addr + index)
    pub found_is : found ≡ get_or column index 0
    pub differ : expected ≡ found → ⊥

  -- one of the cells is not below M
  pub record OutOfRange (addr : ℕ) (column : List ℕ) (expected found : ℕ) : Type 0 where
    pub past : g.size < addr + length column
    pub silent : Silent expected found

  -- the lookup under a number, where there is one
  abbrev pub Stood : List Lookup → ℕ → ℕ → ℕ → Type 0
  Stood [] n expected found = Silent expected found
  Stood (l ∷ ls) n expected found =
      ((l.number ≡ n) × (Differs l.addr l.column expected found ⊎ OutOfRange l.addr l.column expected found))
      ⊎ ((l.number ≡ n → ⊥) × Stood ls n expected found)

module _ (g : Given) (t : Tables) where
  -- a tuple is pushed as often as it is pulled
  abbrev pub Equal : Tuple → Type 0
  Equal σ = pushed_to g t σ t.height ≡ pulled_to t σ t.ext_height

  -- a pushing row, and a pulling row
  abbrev pub Pushes : ℕ → Type 0
  Pushes r = pushes (instruction_of g t r) ≡ 0 → ⊥

  abbrev pub Pulls : ℕ → Type 0
  Pulls r = pulls (t.ext r) ≡ 0 → ⊥

-- the parts by number, and whether a part's length is right; there is no part but 1 to 4, and nothing to refuse in
-- another
module _ (q : Parts) where
  abbrev pub part : ℕ → List ℕ
  part n = get_or ([] ∷ q.program ∷ q.memory ∷ q.exec ∷ q.ext ∷ []) n []

  abbrev pub part_fits : ℕ → Bool
  part_fits n =
      get_or (true ∷ program_fits (length (part 1)) ∷ memory_fits (length (part 2)) ∷ exec_fits (length (part 3)) ∷ ext_fits (length (part 4)) ∷ []) n true

  abbrev g : Given
  g = given_of q

  abbrev t : Tables
  t = tables_of q

  -- 1 SIZE: the lowest part of bad length
  pub record BadSize (n place : ℕ) : Type 0 where
    pub before : (m : ℕ) → m < n → T (part_fits m)
    pub bad : part_fits n ≡ false
    pub unnamed : place ≡ 0

  -- 2 WORD: the first word at or above p, by part, and its number there
  pub record BadWord (n k : ℕ) : Type 0 where
    pub sizes : (m : ℕ) → T (part_fits m)
    pub parts_before : (m : ℕ) → m < n → Words (part m)
    pub before : (j : ℕ) → j < k → IsWord (word_of (part n) j)
    pub inside : k < length (part n) / 4
    pub bad : p ≤ word_of (part n) k

  -- tests 1 and 2 passed
  pub record PassedTwo : Type 0 where
    pub sizes : (m : ℕ) → T (part_fits m)
    pub words : (m : ℕ) → Words (part m)

  -- 3 INSTRUCTION: the first malformed one
  pub record BadInstruction (i : ℕ) : Type 0 where
    pub two : PassedTwo
    pub before : (j : ℕ) → j < i → T (well_formed (g.instruction j))
    pub inside : i < g.count
    pub bad : well_formed (g.instruction i) ≡ false

  -- tests 1 to 3 passed
  pub record PassedThree : Type 0 where
    pub two : PassedTwo
    pub instructions : (i : ℕ) → i < g.count → T (well_formed (g.instruction i))

  -- 4 START: row 0 isn't the start
  pub record BadStart : Type 0 where
    pub three : PassedThree
    pub bad : (t.exec 0).pc ≡ q.pc → (t.exec 0).fp ≡ q.fp → ⊥

  -- tests 1 to 4 passed
  pub record PassedFour : Type 0 where
    pub three : PassedThree
    pub start_pc : (t.exec 0).pc ≡ q.pc
    pub start_fp : (t.exec 0).fp ≡ q.fp

  -- 5 EXEC: first by row, then rule
  pub record BadExec (r n expected found : ℕ) : Type 0 where
    pub four : PassedFour
    pub before : (s : ℕ) → s < r → All (exec_rules_at g t s)
    pub inside : r < t.height
    pub bad : FirstFailing (exec_rules_at g t r) n
    pub stood : Stood g (exec_lookups (t.exec r)) n expected found

  -- tests 1 to 5 passed
  pub record PassedFive : Type 0 where
    pub four : PassedFour
    pub execution : (r : ℕ) → r < t.height → All (exec_rules_at g t r)

  -- 6 EXTENSION: first by row, then 18 to 21, then 1 to 17
  pub record BadExtension (r n expected found : ℕ) : Type 0 where
    pub five : PassedFive
    pub before : (s : ℕ) → s < r → All (ext_rules_at g t s)
    pub inside : r < t.ext_height
    pub bad : FirstFailing (ext_rules_at g t r) n
    pub stood : Stood g (ext_lookups (t.ext r)) n expected found

  -- tests 1 to 6 passed
  pub record PassedSix : Type 0 where
    pub five : PassedFive
    pub extension : (r : ℕ) → r < t.ext_height → All (ext_rules_at g t r)

  -- 7 BUS: the first pushing row whose tuple is unequal
  pub record BadPush (r : ℕ) : Type 0 where
    pub six : PassedSix
    pub before : (s : ℕ) → s < r → Pushes g t s → Equal g t (pushed_at g t s)
    pub inside : r < t.height
    pub pushing : Pushes g t r
    pub bad : Equal g t (pushed_at g t r) → ⊥

  -- else the first pulling row whose tuple is
  pub record BadPull (r : ℕ) : Type 0 where
    pub six : PassedSix
    pub pushes_equal : (s : ℕ) → s < t.height → Pushes g t s → Equal g t (pushed_at g t s)
    pub before : (s : ℕ) → s < r → Pulls g t s → Equal g t (pulled (t.ext s))
    pub inside : r < t.ext_height
    pub pulling : Pulls g t r
    pub bad : Equal g t (pulled (t.ext r)) → ⊥

  -- what an answer of the judge says; the verdicts from 8 on are not the judge's
  unfoldable pub Says : Answer → Type 0
  Says (Ok x) = Satisfies q
  Says (Err (refusal.Size n place)) = BadSize n place
  Says (Err (refusal.Word n k)) = BadWord n k
  Says (Err (refusal.Instruction i)) = BadInstruction i
  Says (Err refusal.Start) = BadStart
  Says (Err (refusal.Exec r n expected found)) = BadExec r n expected found
  Says (Err (refusal.Extension r n expected found)) = BadExtension r n expected found
  Says (Err (refusal.Bus n r)) = ((n ≡ 3) × BadPush r) ⊎ ((n ≡ 4) × BadPull r)
  Says (Err (refusal.Label place)) = ⊥
  Says (Err (refusal.Stuck r n)) = ⊥
  Says (Err (refusal.Room r)) = ⊥
  Says (Err (refusal.Open r)) = ⊥
  Says (Err refusal.Buffer) = ⊥
  Says (Err refusal.Grid) = ⊥
  Says (Err (refusal.Edition place)) = ⊥
  Says (Err (refusal.Listing place)) = ⊥
  Says (Err (refusal.Short place)) = ⊥
  Says (Err refusal.Host) = ⊥
  Says (Err (refusal.ListShort place)) = ⊥
