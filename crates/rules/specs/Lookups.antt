-- Document 02, M-104; draft 0.6.0, 3.3.1 and 3.5.3: the lookups of a row under their rules' numbers, and what one of
-- them finds.
-- Declared in src/: Exec, Ext (rows); Found (here).
use Rattle.std.specs.Prelude.{ℕ, ◌+◌, cond, List, [], ◌∷◌, leb, eqb, length}
use Rattle.rows.specs.Rows.{five_words}
use Rattle.rows.specs.declared.Exec.{Exec}
use Rattle.rows.specs.declared.Ext.{Ext}
use Rattle.rules.specs.declared.Found.{Found}

-- the words of a column against the cells from an address on
pub record Lookup : Type 0 where
  pub number : ℕ
  pub addr : ℕ
  pub column : List ℕ

abbrev lookup : ℕ → ℕ → List ℕ → Lookup
lookup number addr column = record { number = number; addr = addr; column = column }

abbrev pub exec_lookups : Exec → List Lookup
exec_lookups x =
    lookup 2 x.addrA (x.valueA ∷ [])
    ∷ lookup 3 x.addrB (x.valueB ∷ [])
    ∷ lookup 4 x.addrC (x.valueC ∷ [])
    ∷ []

abbrev pub ext_lookups : Ext → List Lookup
ext_lookups x =
    lookup 18 x.idxA (x.base ∷ [])
    ∷ lookup 19 x.idxA (five_words x.vA)
    ∷ lookup 20 x.idxB (five_words x.vB)
    ∷ lookup 21 x.idxR (five_words x.res)
    ∷ []

-- the cell's word, and the column's; both are 0 where nothing is said
abbrev pub finding : ℕ → ℕ → Found
finding expected found = record { expected = expected; found = found }

-- the first cell from an address on that differs from its word of the column
abbrev pub differing : (ℕ → ℕ) → ℕ → List ℕ → Found
differing cell addr [] = finding 0 0
differing cell addr (v ∷ vs) = cond (eqb v (cell addr)) (differing cell (addr + 1) vs) (finding (cell addr) v)

-- in a memory of so many cells: it is said where every cell looked up is below M
module _ (size : ℕ) (cell : ℕ → ℕ) where
  unfoldable pub found_by : ℕ → List ℕ → Found
  found_by addr column = cond (leb (addr + length column) size) (differing cell addr column) (finding 0 0)

  -- what the lookup under a rule's number finds; of a rule that is no lookup nothing is said
  unfoldable pub found_under : List Lookup → ℕ → Found
  found_under [] n = finding 0 0
  found_under (l ∷ ls) n = cond (eqb l.number n) (found_by l.addr l.column) (found_under ls n)
