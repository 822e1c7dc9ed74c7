-- Inner: lookups into a memory's bytes, which two buffers may hold: the bytes of cells, what stands in one, and what
-- `looks_up` and `looks_up_five` of `rules` come to there.
use Rattle.std.specs.Prelude.{ℕ, ◌+◌, ◌-◌, ◌*◌, ◌/◌, ◌%◌, ◌≡◌, Bool, ◌&&◌, cond, List, [], Option, Some, None, length, take, drop, leb, ltb, eqb}
use Rattle.word.specs.Bytes.{word_at}
use Rattle.word.specs.Element.{◌⟨◌⟩}

-- the bytes of n cells from one on; none where they are not all there
unfoldable pub cell_bytes : List ℕ → ℕ → ℕ → List ℕ
cell_bytes memory addr n = cond (leb (addr + n) (length memory / 4)) (take (4 * n) (drop (4 * addr) memory)) []

-- the same of the buffer that holds the first of them: none where they cross the seam
unfoldable pub held_bytes : List ℕ → List ℕ → ℕ → ℕ → List ℕ
held_bytes public rest addr n =
    cond (ltb addr (length public / 4)) (cell_bytes public addr n) (cell_bytes rest (addr - length public / 4) n)

-- one buffer holds five cells from an address on, and they are these
abbrev pub held_are : List ℕ → List ℕ → ℕ → List ℕ → Bool
held_are public rest addr a =
    let s = held_bytes public rest addr 5 in
    leb 20 (length s)
    && eqb (a ⟨ 0 ⟩) (word_at s 0)
    && eqb (a ⟨ 1 ⟩) (word_at s 4)
    && eqb (a ⟨ 2 ⟩) (word_at s 8)
    && eqb (a ⟨ 3 ⟩) (word_at s 12)
    && eqb (a ⟨ 4 ⟩) (word_at s 16)

-- the seam lies between two cells
abbrev pub SeamBetween : List ℕ → Type 0
SeamBetween public = length public % 4 ≡ 0

-- the word of a cell, where there is such a cell
abbrev pub cell_of : List ℕ → ℕ → Option ℕ
cell_of memory addr = cond (ltb addr (length memory / 4)) (Some (word_at memory (4 * addr))) None

abbrev pub cell_is : List ℕ → ℕ → ℕ → Bool
cell_is memory addr value = ltb addr (length memory / 4) && eqb value (word_at memory (4 * addr))

abbrev pub cells_are : List ℕ → ℕ → List ℕ → Bool
cells_are memory addr a =
    cell_is memory addr (a ⟨ 0 ⟩)
    && cell_is memory (addr + 1) (a ⟨ 1 ⟩)
    && cell_is memory (addr + 2) (a ⟨ 2 ⟩)
    && cell_is memory (addr + 3) (a ⟨ 3 ⟩)
    && cell_is memory (addr + 4) (a ⟨ 4 ⟩)
