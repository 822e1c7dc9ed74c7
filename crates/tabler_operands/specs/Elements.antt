-- Inner: the elements of a group as the code reads them, and that their cells exist.
-- Declared in src/: Group, Joined (here).
use Rattle.std.specs.Prelude.{Bool, true, false, List, ◌≡◌, ℕ, ◌+◌, ◌-◌, ◌*◌, ◌/◌, ◌≤◌, ◌^◌}
use Rattle.word.specs.Element.{◌⟨◌⟩, element}
use Rattle.machine.specs.Extension.{element_at, left_at, right_at, cells_exist, term_of, joined, extension_result, same_element}
use Rattle.tables.specs.Groups.{left_index}
use Rattle.tabler_operands.specs.declared.Group.{Group}
use Rattle.tabler_operands.specs.declared.Joined.{Joined}

-- a_i of its five cells: with be the first alone
abbrev pub left_of : Bool → List ℕ → List ℕ
left_of true v = element (v ⟨ 0 ⟩)
left_of false v = v

-- element i, its term joined to what comes after it
abbrev pub joined_at : (ℕ → ℕ) → Group → ℕ → List ℕ → Joined
joined_at cell g i rest =
    record {
      left = element_at cell (left_index g.be g.a i);
      right = right_at cell g.b i;
      comp = joined g.op (term_of g.op (left_at cell g.be g.a i) (right_at cell g.b i)) rest;
    }

abbrev pub group_exists : ℕ → Group → Bool
group_exists size g = cells_exist size g.be g.n g.a g.b g.c

-- what the elements from j on come to
abbrev pub result_from : (ℕ → ℕ) → Group → ℕ → List ℕ
result_from cell g j = extension_result cell g.op g.be g.a g.b j (g.n - j)

abbrev pub result_holds : (ℕ → ℕ) → Group → Bool
result_holds cell g = same_element (element_at cell g.c) (extension_result cell g.op g.be g.a g.b 0 g.n)

-- in a memory of so many bytes all cells of a group exist
pub record GroupExists (bytes : ℕ) (g : Group) : Type 0 where
  pub short : bytes ≤ 2 ^ 31
  pub exists : group_exists (bytes / 4) g ≡ true

-- and those of its element i
pub record ElementExists (bytes : ℕ) (g : Group) (i : ℕ) : Type 0 where
  pub short : bytes ≤ 2 ^ 31
  pub left : left_index g.be g.a i + 5 ≤ bytes / 4
  pub right : g.b + 5 * i + 5 ≤ bytes / 4
