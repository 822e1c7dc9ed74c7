-- What is said of a lookup is words: a cell's of the memory, and a column's of the table.
use mathlib.Core.Path.{◌≡◌, sym, subst}
use mathlib.Core.Logic.{inl, inr}
use mathlib.Core.List.{List, [], ◌∷◌}
use Prim.Native.Nat.{ℕ, zero, suc, ◌+◌, ◌*◌, ◌/◌, ◌<◌}
use native.Mathlib.Omega.{arith}
use lib.ListN.{length, get_or}
use Rattle.word.specs.Word.{IsWord}
use Rattle.word.specs.Bytes.{word_at}
use Rattle.rows.specs.Rows.{exec_at, five_at, ext_at, five_words}
use Rattle.rules.specs.Given.{Given}
use Rattle.rules.specs.Lookups.{Lookup, exec_lookups, ext_lookups}
use Rattle.rules.specs.Satisfies.{Words}
use Rattle.judge_spec.specs.Refusal.{Silent, Stood}

-- words of a column, and of the columns of a list
abbrev pub AreWords : List ℕ → Type 0
AreWords [] = Unit
AreWords (v ∷ vs) = IsWord v × AreWords vs

abbrev pub Columns : List Lookup → Type 0
Columns [] = Unit
Columns (l ∷ ls) = AreWords l.column × Columns ls

nth : (column : List ℕ) → AreWords column → (j : ℕ) → j < length column → IsWord (get_or column j 0)
nth [] w j h = absurd (omega arith)
nth (v ∷ vs) w zero h = w.0
nth (v ∷ vs) w (suc j) h = nth vs w.1 j (omega arith)

module _ (g : Given) (cells : (k : ℕ) → k < g.size → IsWord (g.cell k)) where
  silent_words : {x y : ℕ} → Silent x y → IsWord x × IsWord y
  silent_words s = (omega (arith, s.expected_is), omega (arith, s.found_is))

  pub stood_words : (ls : List Lookup) (n : ℕ) {x y : ℕ} → Columns ls → Stood g ls n x y → IsWord x × IsWord y
  stood_words [] n w s = silent_words s
  stood_words (l ∷ ls) n w (inl (same, inl d)) = (
    subst IsWord (sym d.expected_is) (cells (l.addr + d.index) (omega (arith, d.inside, d.in_range))),
    subst IsWord (sym d.found_is) (nth l.column w.0 d.index d.inside),
  )
  stood_words (l ∷ ls) n w (inl (same, inr o)) = silent_words o.silent
  stood_words (l ∷ ls) n w (inr (other, s)) = stood_words ls n w.1 s

-- the words of a row, by their bytes
module _ (bytes : List ℕ) (words : Words bytes) where
  word_in : (k at : ℕ) → 4 * k ≡ at → k < length bytes / 4 → IsWord (word_at bytes at)
  word_in k at e h = subst (λ n. IsWord (word_at bytes n)) e (words k h)

  pub exec_columns : (r : ℕ) → r < length bytes / 32 → Columns (exec_lookups (exec_at bytes (32 * r)))
  unfolding exec_at
  exec_columns r h =
      let value : (j at : ℕ) → j < 8 → 4 * (8 * r + j) ≡ at → IsWord (word_at bytes at) =
      λ j at small e. word_in (8 * r + j) at e (omega arith) in (
        (value 5 _ (omega arith) (omega arith), tt),
        ((value 6 _ (omega arith) (omega arith), tt), ((value 7 _ (omega arith) (omega arith), tt), tt)),
      )

  five_words_lem : (k at : ℕ) → 4 * k ≡ at → k + 4 < length bytes / 4 → AreWords (five_words (five_at bytes at))
  unfolding five_at
  five_words_lem k at e h = (
    word_in k at e (omega arith),
    (
      word_in (k + 1) (at + 4) (omega arith) (omega arith),
      (
        word_in (k + 2) (at + 8) (omega arith) (omega arith),
        (word_in (k + 3) (at + 12) (omega arith) (omega arith), (word_in (k + 4) (at + 16) (omega arith) h, tt)),
      ),
    ),
  )

  pub ext_columns : (r : ℕ) → r < length bytes / 120 → Columns (ext_lookups (ext_at bytes (120 * r)))
  unfolding ext_at
  ext_columns r h = (
    (word_in (30 * r + 9) _ (omega arith) (omega arith), tt),
    (
      five_words_lem (30 * r + 10) _ (omega arith) (omega arith),
      (five_words_lem (30 * r + 15) _ (omega arith) (omega arith), (five_words_lem (30 * r + 25) _ (omega arith) (omega arith), tt)),
    ),
  )
